-- Which kind is ready by what is held is what the history names: the order of the buffers makes no
-- difference.
use Rattle.batcher_histories.proofs.Words.{◌≡◌, ◌+◌, Bool, true, not, cond, ◌&&◌, ◌||◌, nat_le, nat_lt, List, [], ◌∷◌, length, Option, Some, is_none, refl, ap}
use Rattle.batcher_histories.proofs.Words.{sym, ◌∙◌, arith, subst, list_all, and_parts, and_from, both_ways, Proposal, Subject, Vote, Kind, Config, quorum_in}
use Rattle.batcher_histories.proofs.Words.{SameElements, subject_of, has_proposals, same_subject, all_count, length_same, none_fails, same_subject-true}
use Rattle.batcher_histories.proofs.Words.{same_subject-refl, proposal_of, of_kind, RoundState, have_one_subject, is_enough, is_ready_in, kind_tried, History}
use Rattle.batcher_histories.proofs.Words.{selected_proposal, is_certified, is_ready_by, trials, proven_votes, fresh_votes, ready_kind, first_ready, Represents}
use Rattle.batcher_histories.proofs.History.Laws.{HasLaws}
use Rattle.batcher_histories.proofs.History.Attempts.{chosen}

all_same : {X : Type 0} (p : X → Bool) (xs ys : List X) → SameElements xs ys → list_all p xs ≡ true
    → list_all p ys ≡ true
all_same p xs ys same h = all_count p ys (sym (same (λ v. not (p v))) ∙ none_fails p xs h)

module _ {D K G C : Type 0} (x : Config D K G C) (lawful : HasLaws x) where
  one_subject_of : (xs ys : List (Vote G D)) → SameElements xs ys
      → have_one_subject x.same_digest xs ≡ true → have_one_subject x.same_digest ys ≡ true
  one_subject_of xs [] same h = refl
  one_subject_of [] (w ∷ ws) same h = absurd (omega (arith, length_same [] (w ∷ ws) same))
  one_subject_of (v ∷ vs) (w ∷ ws) same h =
      let all_v : list_all (λ u. same_subject x.same_digest (subject_of v) (subject_of u)) (v ∷ vs)
      ≡ true = and_from _ _ (same_subject-refl x.same_digest lawful.digests_same (subject_of v)) h in
      let all_w : list_all (λ u. same_subject x.same_digest (subject_of v) (subject_of u)) (w ∷ ws)
      ≡ true = all_same (λ u. same_subject x.same_digest (subject_of v) (subject_of u)) (v ∷ vs) (w ∷ ws) same all_v in
      let parts = and_parts (same_subject x.same_digest (subject_of v) (subject_of w))
      (list_all (λ u. same_subject x.same_digest (subject_of v) (subject_of u)) ws) all_w in
      let e : subject_of v ≡ subject_of w = same_subject-true x.same_digest lawful.digests_equal (subject_of v) (subject_of w) parts.0 in
      subst (λ (s : Subject D). list_all (λ u. same_subject x.same_digest s (subject_of u)) ws ≡ true) e parts.1

  -- whether votes are of one subject doesn't depend on their order,
  pub one_subject_same : (xs ys : List (Vote G D)) → SameElements xs ys
      → have_one_subject x.same_digest xs ≡ have_one_subject x.same_digest ys
  one_subject_same xs ys same = both_ways _ _ (one_subject_of xs ys same) (one_subject_of ys xs (λ test. sym (same test)))

  -- nor whether they are enough
  pub enough_same : (kind : Kind) (proposal : Option (Proposal D)) (vs ws ps qs : List (Vote G D))
      → SameElements vs ws → SameElements ps qs →
      is_enough x.same_digest x.meaning.batchable (quorum_in x) kind proposal vs ps
      ≡ is_enough x.same_digest x.meaning.batchable (quorum_in x) kind proposal ws qs
  enough_same kind proposal vs ws ps qs verified pending =
      ap (λ b. cond (has_proposals kind && is_none proposal) (nat_le (quorum_in x) (length vs) && b)
      (nat_le (quorum_in x) (length vs) || (nat_lt 0 (length ps) && (not x.meaning.batchable || nat_le (quorum_in x) (length vs + length ps)))))
      (one_subject_same vs ws verified)
      ∙ (ap (λ n. cond (has_proposals kind && is_none proposal) (nat_le (quorum_in x) n && have_one_subject x.same_digest ws)
      (nat_le (quorum_in x) n || (nat_lt 0 (length ps) && (not x.meaning.batchable || nat_le (quorum_in x) (n + length ps))))) (length_same vs ws verified)
      ∙ ap (λ n. cond (has_proposals kind && is_none proposal) (nat_le (quorum_in x) (length ws) && have_one_subject x.same_digest ws)
      (nat_le (quorum_in x) (length ws) || (nat_lt 0 n && (not x.meaning.batchable || nat_le (quorum_in x) (length ws + n))))) (length_same ps qs pending))

  ready_same : (past : History D K G C) (held : RoundState G D) (kind : Kind)
      → Represents x past held
      → is_ready_in x held kind ≡ is_ready_by x (trials x past) past kind
  ready_same past held kind represents =
      ap (λ c. not c && is_enough x.same_digest x.meaning.batchable (quorum_in x) kind (proposal_of held.buffered.selection)
      (of_kind held.buffered.verified kind) (of_kind held.buffered.pending kind)) (represents.each_kind kind).certified_is
      ∙ (ap (λ s. not (is_certified past kind) && is_enough x.same_digest x.meaning.batchable (quorum_in x) kind (proposal_of s)
      (of_kind held.buffered.verified kind) (of_kind held.buffered.pending kind)) represents.selection_is
      ∙ ap (λ b. not (is_certified past kind) && b)
      (enough_same kind (selected_proposal x past) (of_kind held.buffered.verified kind) (proven_votes x past kind) (of_kind held.buffered.pending kind)
      (fresh_votes x past kind) (represents.each_kind kind).verified_are (represents.each_kind kind).pending_are))

  -- The kind that is tried by what is held is the first ready one of the history.
  pub tried_is_ready : (past : History D K G C) (held : RoundState G D) → Represents x past held
      → kind_tried x held ≡ ready_kind x past
  tried_is_ready past held represents = λ i. first_ready (λ kind. ready_same past held kind represents i)

pub tried_ready : {D K G C : Type 0} (x : Config D K G C) (held : RoundState G D) (kind : Kind)
    → kind_tried x held ≡ Some kind → is_ready_in x held kind ≡ true
tried_ready x held kind h = chosen (is_ready_in x held) _ _ _ kind refl refl refl h
