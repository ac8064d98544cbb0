-- Votes for which a round blocks their sender, and that it refuses as own ones; of a round that
-- retains votes, that whoever casts
-- one that differs from its first vote is blocked for it.
use Rattle.batcher_histories.proofs.Words.{◌≡◌, ℕ, Bool, true, false, not, cond, ◌&&◌, [], ◌∷◌, ◌++◌, Option, Some, None, Ok, Err, Result, refl, ap, sym, ◌∙◌}
use Rattle.batcher_histories.proofs.Words.{⊎_elim, eqb, subst, filter, find, is_some, is_none, list_any, or-false, and_parts, and_from, or_left, or_right}
use Rattle.batcher_histories.proofs.Words.{or_cases, true≢false, false≢true, eqb-true, list_any-append, Participant, Vote, NotarizeVote, NullifyVote}
use Rattle.batcher_histories.proofs.Words.{FinalizeVote, Kind, Notarization, Nullification, Finalization, Admission, Retaining, Outcome, Call, NetworkCall}
use Rattle.batcher_histories.proofs.Words.{OwnCall, Answer, NetworkAnswer, OwnAnswer, OwnRefused, Config, sender_in, is_some_and, is_kind, kind_of, signer_of}
use Rattle.batcher_histories.proofs.Words.{is_vote_of, has_proposals, are_opposite, opposes, is_kind-true, is_released_in, same_vote, block_for}
use Rattle.batcher_histories.proofs.Words.{mismatch_reason, admission_after_facts, duplicate_result, unopposed_result, Event, History, is_made, names_sender}
use Rattle.batcher_histories.proofs.Words.{cast_votes, first_votes, is_free, first_vote, first_like, opposite_vote, is_certified, is_released, certificate_of}
use Rattle.batcher_histories.proofs.Words.{conflicts, network_answer, own_answer, MayAnswer, IsPossible, votes_cast, blocks_participant}
use Rattle.batcher_histories.proofs.History.Distinct.{first_stays, is_itself, option_cases, found_is_of}
use Rattle.batcher_histories.proofs.KnownLemmas.Observed.{cast_cases}
use Rattle.batcher_histories.proofs.Headline.Promises.{after_blocks, beside_blocks}
use Rattle.batcher_histories.proofs.Correctness.Kept.{found_passes}
use Rattle.batcher_histories.proofs.Simulation.FirstVotes.{free_is}
use Rattle.batcher_histories.proofs.History.ByFirst.{admission_against, admission_by_first, admission_sent_by, outcome_by_first, own_answer_against, network_is}
use Rattle.batcher_histories.proofs.History.ByFirst.{own_is}

err_not_ok : {A B : Type 0} (e : B) (a : A) → ◌≡◌ {A = Result A B} (Err e) (Ok a) → ⊥
err_not_ok e a h = cc

-- an own notarize or finalize beside a kept one is refused
duplicate_not_ok : (kind : Kind) (outcome : Outcome) → has_proposals kind ≡ true
    → duplicate_result kind ≡ Ok outcome → ⊥
duplicate_not_ok Notarization outcome has h = err_not_ok _ outcome h
duplicate_not_ok Nullification outcome has h = false≢true has
duplicate_not_ok Finalization outcome has h = err_not_ok _ outcome h

either_blocks : {G D : Type 0} (b : Bool) (one other : Admission G D) → is_some one.block ≡ true
    → is_some other.block ≡ true → is_some (cond b one other).block ≡ true
either_blocks true one other e f = e
either_blocks false one other e f = f

-- after facts of the opposite vote a vote is blocked, as after that vote
after_facts_blocks : {G D : Type 0} (earlier vote : Vote G D)
    → are_opposite (kind_of earlier) (kind_of vote) ≡ true
    → is_some (admission_after_facts vote).block ≡ true
after_facts_blocks earlier (NullifyVote vote) h = refl
after_facts_blocks earlier (FinalizeVote vote) h = refl
after_facts_blocks (NotarizeVote a) (NotarizeVote vote) h = absurd (false≢true h)
after_facts_blocks (NullifyVote a) (NotarizeVote vote) h = absurd (false≢true h)
after_facts_blocks (FinalizeVote a) (NotarizeVote vote) h = absurd (false≢true h)

one_cast : {X : Type 0} (b : Bool) (v w : X) → cond b (v ∷ []) [] ++ [] ≡ w ∷ [] → (b ≡ true)
    × (v ≡ w)
one_cast true v w h = (refl, cc)
one_cast false v w h = absurd (cc)

module _ {D K G C : Type 0} (x : Config D K G C) where
  -- CALLS THAT CAST A VOTE
  sent_blocks : (past : History D K G C) (vote : Vote G D) (index : Option Participant)
      → is_some_and index (λ i. eqb i.0 (signer_of vote)) ≡ true →
      is_some (admission_against x past (opposite_vote x past vote) vote).block ≡ true
      → is_some (admission_sent_by x past index vote).block ≡ true
  sent_blocks past vote None named h = absurd (false≢true named)
  sent_blocks past vote (Some i) named h =
      ap (λ b. is_some (cond b (admission_against x past (opposite_vote x past vote) vote) (block_for (mismatch_reason (kind_of vote)) None)).block) named ∙ h

  -- a vote for which its sender is blocked where the network sends it, and which is refused as an
  -- own one
  abbrev IsRefused : History D K G C → Vote G D → Type 0
  IsRefused past vote =
      (is_some (admission_against x past (opposite_vote x past vote) vote).block ≡ true) × ((outcome : Outcome) → own_answer x past vote ≡ Ok outcome → ⊥)

  -- A call that casts such a vote is its sender's, and blocks it.
  pub refused_blocks : (past : History D K G C) (call : Call K G C D) (answer : Answer G C D)
      → is_made answer ≡ true → MayAnswer x past call answer → (vote : Vote G D) → cast_votes x call
      ≡ vote ∷ [] →
      IsRefused past vote → blocks_participant x (signer_of vote) (call, answer) ≡ true
  refused_blocks past (NetworkCall sender sent) (NetworkAnswer admission) made may vote casts refused =
      let one = one_cast (names_sender x sender sent) sent vote casts in
      let named : names_sender x sender vote ≡ true = ap (names_sender x sender) (sym one.1) ∙ one.0 in
      let block : is_some (network_answer x past sender vote).block ≡ true =
      ap (λ a. is_some a.block) (network_is x past vote sender) ∙ sent_blocks past vote (sender_in x sender) named refused.0 in
      and_from _ _ named (ap (λ (a : Admission G D). is_some a.block) may ∙ (ap (λ v. is_some (network_answer x past sender v).block) one.1 ∙ block))
  refused_blocks past (NetworkCall sender sent) answer made may vote casts refused = absurd may
  refused_blocks past (OwnCall own) (OwnAnswer outcome report) made may vote casts refused =
      let one = one_cast true own vote casts in absurd (refused.1 outcome (ap (own_answer x past) (sym one.1) ∙ may.0))
  refused_blocks past (OwnCall own) (OwnRefused fault) made may vote casts refused = absurd (false≢true made)
  refused_blocks past (OwnCall own) answer made may vote casts refused = absurd may
  refused_blocks past call answer made may vote casts refused = absurd (cc)

  -- and brings no certificate
  pub cast_uncertified : (past : History D K G C) (call : Call K G C D) (answer : Answer G C D)
      → MayAnswer x past call answer → (test : Vote G D → Bool) → list_any test (cast_votes x call)
      ≡ true →
      certificate_of (call, answer) ≡ None
  cast_uncertified past (NetworkCall sender sent) (NetworkAnswer admission) may test h = refl
  cast_uncertified past (NetworkCall sender sent) answer may test h = absurd may
  cast_uncertified past (OwnCall own) (OwnAnswer outcome report) may test h = refl
  cast_uncertified past (OwnCall own) (OwnRefused fault) may test h = refl
  cast_uncertified past (OwnCall own) answer may test h = absurd may
  cast_uncertified past call answer may test h = absurd (false≢true h)

  -- VOTES THAT ARE REFUSED
  -- one that comes after the opposite one, kept or not
  pub opposed_blocks : (past : History D K G C) (earlier vote : Vote G D)
      → are_opposite (kind_of earlier) (kind_of vote) ≡ true
      → is_some (admission_against x past (Some earlier) vote).block ≡ true
  opposed_blocks past earlier vote opposed =
      either_blocks (is_released x past (kind_of earlier)) _ _ (after_facts_blocks earlier vote opposed)
      (after_blocks x.same_digest x.same_signature earlier vote ∙ opposed)

  opposed_refused : (past : History D K G C) (vote earlier : Vote G D) → opposite_vote x past vote
      ≡ Some earlier → IsRefused past vote
  opposed_refused past vote earlier e =
      let opposed : are_opposite (kind_of earlier) (kind_of vote)
      ≡ true = (and_parts _ _ (found_passes (λ v. opposes v vote) (first_votes x past) earlier e)).1 in (
        ap (λ o. is_some (admission_against x past o vote).block) e ∙ opposed_blocks past earlier vote opposed,
        λ outcome ok. err_not_ok _ outcome (sym (own_is x past vote ∙ ap (λ o. own_answer_against x past o vote) e) ∙ ok),
      )

  module _ (past : History D K G C) (vote first : Vote G D)
      (unopposed : opposite_vote x past vote ≡ None) (like : first_like x past vote ≡ Some first)
    where
      answer_is : (released conflict : Bool) → is_released x past (kind_of vote) ≡ released
          → conflicts x past vote ≡ conflict →
          admission_against x past (opposite_vote x past vote) vote
          ≡ admission_by_first x (Some first) released conflict vote
      answer_is released conflict e f =
          ap (λ o. admission_against x past o vote) unopposed
          ∙ (ap (λ o. admission_by_first x o (is_released x past (kind_of vote)) (conflicts x past vote) vote) like
          ∙ (ap (λ b. admission_by_first x (Some first) b (conflicts x past vote) vote) e ∙ ap (λ b. admission_by_first x (Some first) released b vote) f))

      own_answered : (released conflict : Bool) → is_released x past (kind_of vote) ≡ released
          → conflicts x past vote ≡ conflict →
          own_answer x past vote ≡ unopposed_result (kind_of vote)
          (outcome_by_first x (Some first) released conflict)
      own_answered released conflict e f =
          own_is x past vote
          ∙ (ap (λ o. own_answer_against x past o vote) unopposed
          ∙ (ap (λ o. unopposed_result (kind_of vote) (outcome_by_first x o (is_released x past (kind_of vote)) (conflicts x past vote))) like
          ∙ (ap (λ b. unopposed_result (kind_of vote) (outcome_by_first x (Some first) b (conflicts x past vote))) e
          ∙ ap (λ b. unopposed_result (kind_of vote) (outcome_by_first x (Some first) released b)) f)))

      -- one that differs from the kept one of its kind and signer
      other_refused : is_released x past (kind_of vote) ≡ false → has_proposals (kind_of vote)
          ≡ true
          → is_kind (kind_of first) (kind_of vote) ≡ true →
          same_vote x.same_digest x.same_signature first vote ≡ false → IsRefused past vote
      other_refused kept has of_kind differs = (
        ap (λ (a : Admission G D). is_some a.block) (answer_is false (conflicts x past vote) kept refl)
            ∙ (beside_blocks x.same_digest x.same_signature first vote ∙ and_from _ _ of_kind (ap not differs)),
        λ outcome ok. duplicate_not_ok (kind_of vote) outcome has (sym (own_answered false (conflicts x past vote) kept refl) ∙ ok),
      )

      -- one that conflicts with those compared
      pub conflicting_refused : is_released x past (kind_of vote) ≡ true → conflicts x past vote
          ≡ true → IsRefused past vote
      conflicting_refused released conflict = (
        ap (λ (a : Admission G D). is_some a.block) (answer_is true true released conflict),
        λ outcome ok. err_not_ok _ outcome (sym (own_answered true true released conflict) ∙ ok),
      )

  -- FIRST VOTES
  -- A cast vote that is free is the first one of its kind and signer.
  pub first_if_free : (past : History D K G C) (event : Event D K G C) (vote : Vote G D)
      → cast_votes x event.0 ≡ vote ∷ [] → opposite_vote x past vote ≡ None → first_like x past vote
      ≡ None →
      first_like x (event ∷ past) vote ≡ Some vote
  first_if_free past event vote casts unopposed new =
      let free : is_free (first_votes x past) vote ≡ true = free_is (first_votes x past) vote ∙ and_from _ _ (ap is_none new) (ap is_none unopposed) in
      ap (λ vs. find (is_vote_of (kind_of vote) (signer_of vote)) (filter (is_free (first_votes x past)) vs ++ first_votes x past)) casts
      ∙ (ap (λ b. find (is_vote_of (kind_of vote) (signer_of vote)) (cond b (vote ∷ []) [] ++ first_votes x past)) free
      ∙ ap (λ b. cond b (Some vote) (first_like x past vote)) (is_itself vote))

  pub like_at : (past : History D K G C) (kind : Kind) (i : ℕ) (vote : Vote G D)
      → is_vote_of kind i vote ≡ true → first_like x past vote ≡ first_vote x past kind i
  like_at past kind i vote is =
      ap (λ k. first_vote x past k (signer_of vote)) (is_kind-true _ _ (and_parts _ _ is).0) ∙ ap (first_vote x past kind) (eqb-true _ _ (and_parts _ _ is).1)

  -- where the first votes of a longer history aren't of a sort, nor are those of the history
  pub first_before : (past : History D K G C) (event : Event D K G C) (kind : Kind) (i : ℕ)
      (P : Vote G D → Type 0) → ((first : Vote G D) → first_vote x (event ∷ past) kind i
      ≡ Some first → P first) →
      (first : Vote G D) → first_vote x past kind i ≡ Some first → P first
  first_before past event kind i P holds first e = holds first (first_stays x past event kind i first e)

  -- RETAINING: WHOSE VOTES DIFFER FROM ITS FIRST ONE
  -- a test that votes of a kind and signer pass
  module _ (retains : x.mode ≡ Retaining) (kind : Kind) (i : ℕ) (test : Vote G D → Bool)
      (of_kind : (v : Vote G D) → test v ≡ true → (is_vote_of kind i v && has_proposals (kind_of v)) ≡ true) where
    -- a vote that doesn't pass, and that is the same as none that passes
    abbrev IsOther : Vote G D → Type 0
    IsOther first = (test first ≡ false) × ((v : Vote G D) → test v ≡ true → same_vote x.same_digest x.same_signature first v ≡ false)

    differing_refused : (past : History D K G C) (event : Event D K G C) (vote : Vote G D)
        → ((first : Vote G D) → first_vote x (event ∷ past) kind i ≡ Some first → IsOther first) →
        cast_votes x event.0 ≡ vote ∷ [] → test vote ≡ true → IsRefused past vote
    differing_refused past event vote others casts passes =
        ⊎_elim
        (λ unopposed.
        ⊎_elim
        (λ new.
        let other = others vote (sym (like_at (event ∷ past) kind i vote of) ∙ first_if_free past event vote casts unopposed new) in
        absurd (true≢false (sym passes ∙ other.0)))
        (λ (kept : (first : Vote G D) × (first_like x past vote ≡ Some first)).
        let other = others kept.0 (first_stays x past event kind i kept.0 (sym (like_at past kind i vote of) ∙ kept.1)) in
        let like : is_vote_of (kind_of vote) (signer_of vote) kept.0 ≡ true = found_is_of (first_votes x past) (kind_of vote) (signer_of vote) kept.0 kept.1 in
        other_refused past vote kept.0 unopposed kept.1 (ap (λ m. is_released_in m (is_certified past (kind_of vote))) retains)
        (and_parts _ _ (of_kind vote passes)).1 (and_parts _ _ like).0 (other.1 vote passes))
        (option_cases (first_like x past vote)))
        (λ (opposite : (earlier : Vote G D) × (opposite_vote x past vote ≡ Some earlier)). opposed_refused past vote opposite.0 opposite.1)
        (option_cases (opposite_vote x past vote))
      where
        of : is_vote_of kind i vote ≡ true
        of = (and_parts _ _ (of_kind vote passes)).0

    differing_blocked_now : (past : History D K G C) (event : Event D K G C)
        → IsPossible x (event ∷ past) → ((first : Vote G D) → first_vote x (event ∷ past) kind i
        ≡ Some first → IsOther first) →
        list_any test (cast_votes x event.0) ≡ true → blocks_participant x i event ≡ true
    differing_blocked_now past event possible others h =
        ⊎_elim
        (λ none. absurd (false≢true (ap (list_any test) (sym none) ∙ h)))
        (λ (one : (w : Vote G D) × (cast_votes x event.0 ≡ w ∷ [])).
        let passes : test one.0 ≡ true = sym (or-false (test one.0)) ∙ (ap (list_any test) (sym one.1) ∙ h) in
        subst (λ (j : ℕ). blocks_participant x j event ≡ true) (eqb-true _ _ (and_parts _ _ (and_parts _ _ (of_kind one.0 passes)).0).1)
        (refused_blocks past event.0 event.1 possible.1.0 possible.1.1.0 one.0 one.1 (differing_refused past event one.0 others one.1 passes)))
        (cast_cases x event.0)

    -- Whoever casts one that passes is blocked for it, where its first vote is another.
    pub differing_blocked : (past : History D K G C) → IsPossible x past
        → ((first : Vote G D) → first_vote x past kind i ≡ Some first → IsOther first)
        → list_any test (votes_cast x past) ≡ true →
        list_any (blocks_participant x i) past ≡ true
    differing_blocked [] possible others h = h
    differing_blocked (event ∷ past) possible others h =
        ⊎_elim
        (λ now. or_left _ (list_any (blocks_participant x i) past) (differing_blocked_now past event possible others now))
        (λ before. or_right (blocks_participant x i event) _ (differing_blocked past possible.1.1.1 (first_before past event kind i IsOther others) before))
        (or_cases _ _ (sym (list_any-append test (cast_votes x event.0) (votes_cast x past)) ∙ h))
