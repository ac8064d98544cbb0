-- The buffers after a call are the fresh and the proven votes of the history with it, for every
-- call.
use Rattle.batcher_histories.proofs.Words.{◌≡◌, ℕ, ◌+◌, Bool, true, false, not, cond, ◌&&◌, ◌||◌, List, [], ◌∷◌, ◌++◌, map, Option, Some, None, refl, ap, sym}
use Rattle.batcher_histories.proofs.Words.{◌∙◌, arith, ⊎_elim, leb, subst, filter, is_some, IfSome, cases_Bool, and_from, or_parts, cond_both}
use Rattle.batcher_histories.proofs.Words.{false_from_ne_true, append-nil, list_any-append, same_Some, IsPossible, MayAnswer, insert_by, ordered_by, first_vote}
use Rattle.batcher_histories.proofs.Words.{first_votes, is_free, own_first_votes, RoundState, of_kind, Event, History, batch_given, cast_votes, own_votes}
use Rattle.batcher_histories.proofs.Words.{sent_votes, SameElements, count, is_some_and, is_restored, is_certified, is_released, restored_votes}
use Rattle.batcher_histories.proofs.Words.{selected_proposal, votes_restored_by, Config, quorum_in, fresh_votes, holds_vote, is_among, is_trusted, is_valid}
use Rattle.batcher_histories.proofs.Words.{proven_votes, ready_kind, eligible_votes, was_eligible, trials, eligible_among, was_invalid, TriesBuffers}
use Rattle.batcher_histories.proofs.Words.{Represents, arrivals, first_by_signer, pending_after, tries_kind, verified_after, is_skipped, Attempt, bad_signers}
use Rattle.batcher_histories.proofs.Words.{left_verified, votes_checked, is_kind, is_of_kind, is_vote_of, kind_of, signer_of, is_eligible, Certificate, Kind}
use Rattle.batcher_histories.proofs.Words.{Vote, count-append, count-false, count_same, count-filter, is_kind-true, Answer, Call, CertificateCall}
use Rattle.batcher_histories.proofs.Words.{ConstructCall, ForwardCall, LeaderCall, MissingCall, NetworkCall, OwnCall, Batch}
use Rattle.batcher_histories.proofs.KnownLemmas.Named.{released_where}
use Rattle.batcher_histories.proofs.History.Distinct.{IsAt, any_filtered, count_sum, firsts_apart, free_is_new, is_itself, new_votes, vote_at, option_cases}
use Rattle.batcher_histories.proofs.History.Attempts.{any_bad_fresh, back_not_tried, bad_of_all, invalid_tried, is_fresh_bad, tries_by, given_certified}
use Rattle.batcher_histories.proofs.History.Attempts.{batch_made}
use Rattle.batcher_histories.proofs.History.Laws.{HasLaws}
use Rattle.batcher_histories.proofs.History.Past.{among_eligible, closed_is_empty, count_fresh, count_proven, invalid_after, invalid_in, own_filled, own_stays}
use Rattle.batcher_histories.proofs.History.Past.{restored_after, restored_filled, tried_after, tried_filled, nothing_eligible, open_eligible}
use Rattle.batcher_histories.proofs.History.Selection.{back_eligible_after, back_eligible_before, certified_before, waited_before}

fresh_table : (t k w w' own rest td cb T : Bool) →
    (cb ≡ false → w' ≡ true → w ≡ true) → (cb ≡ true → w' ≡ true) → (cb ≡ true → w ≡ false)
    → (cb ≡ true → td ≡ false) →
    cond (not t && (k && (w && (not ((own && not rest) || td) && (w' && T))))) 1 0 + cond
    (k && (cb && (w' && T))) 1 0
    ≡ cond (k && (w' && (not ((own && not (cb || rest)) || ((t && w) || td)) && T))) 1 0
fresh_table true false w w' own rest td cb T a b c d = refl
fresh_table false false w w' own rest td cb T a b c d = refl
fresh_table t true w w' own rest td true T a b c d = rw (b refl, c refl, d refl) (back t own rest T)
  where
    back : (t own rest T : Bool) → cond (not t && false) 1 0 + cond T 1 0
        ≡ cond (not ((own && false) || ((t && false) || false)) && T) 1 0
    back true true rest T = omega arith
    back true false rest T = omega arith
    back false true rest T = omega arith
    back false false rest T = omega arith
fresh_table t true w false own rest td false T a b c d = gone t w (not ((own && not rest) || td))
  where
    gone : (t w n : Bool) → cond (not t && (w && (n && false))) 1 0 + 0 ≡ 0
    gone true w n = refl
    gone false true true = refl
    gone false true false = refl
    gone false false n = refl
fresh_table t true w true own rest td false T a b c d = rw (a refl refl) (stays t (own && not rest) td T)
  where
    stays : (t o td T : Bool) → cond (not t && (not (o || td) && T)) 1 0 + 0
        ≡ cond (not (o || ((t && true) || td)) && T) 1 0
    stays true true td T = refl
    stays true false td T = refl
    stays false o td T = omega arith

-- a vote that nothing excludes, by whether it is trusted and tried
new_fresh : (f k w' r d T : Bool) → (f ≡ true → r ≡ false) → (f ≡ true → d ≡ false)
    → (f && (k && (w' && (not (r || d) && T)))) ≡ ((k && f) && (w' && T))
new_fresh true true w' r d T h l = rw (h refl, l refl) refl
new_fresh true false w' r d T h l = refl
new_fresh false true w' r d T h l = refl
new_fresh false false w' r d T h l = refl

new_unproven : (f k w' r d i T : Bool) → (f ≡ true → r ≡ false) → (f ≡ true → d ≡ false)
    → (f && (k && (w' && (((r || d) && not i) && T)))) ≡ false
new_unproven true true true r d i T h l = rw (h refl, l refl) refl
new_unproven true true false r d i T h l = refl
new_unproven true false w' r d i T h l = refl
new_unproven false k w' r d i T h l = refl

new_trusted : (f k w' r d T : Bool) → (f ≡ true → r ≡ true)
    → (f && (k && (w' && (not (r || d) && T)))) ≡ false
new_trusted true true true r d T h = rw (h refl) refl
new_trusted true true false r d T h = refl
new_trusted true false w' r d T h = refl
new_trusted false k w' r d T h = refl

new_proven : (f k w' r d i T : Bool) → (f ≡ true → r ≡ true) → (f ≡ true → i ≡ false)
    → (f && (k && (w' && (((r || d) && not i) && T)))) ≡ ((k && f) && (w' && T))
new_proven true true w' r d i T h l = rw (h refl, l refl) refl
new_proven true false w' r d i T h l = refl
new_proven false true w' r d i T h l = refl
new_proven false false w' r d i T h l = refl

pub count_inserted : {X : Type 0} (test : X → Bool) (number : X → ℕ) (v : X) (vs : List X)
    → count test (insert_by number v vs) ≡ cond (test v) 1 0 + count test vs
count_inserted test number v [] = refl
count_inserted test number v (u ∷ us) =
    cond_both (leb (number v) (number u)) (v ∷ u ∷ us) (u ∷ insert_by number v us) (λ l. count test l ≡ cond (test v) 1 0 + (cond (test u) 1 0 + count test us))
    (λ _. refl) (λ _. omega (arith, count_inserted test number v us))

pub count_ordered : {X : Type 0} (test : X → Bool) (number : X → ℕ) (vs : List X)
    → count test (ordered_by number vs) ≡ count test vs
count_ordered test number [] = refl
count_ordered test number (v ∷ vs) = count_inserted test number v (ordered_by number vs) ∙ ap (λ n. cond (test v) 1 0 + n) (count_ordered test number vs)

count-three : {X : Type 0} (test : X → Bool) (xs ys zs : List X) → count test (xs ++ ys ++ zs)
    ≡ (count test xs + count test ys) + count test zs
count-three test xs ys zs = count-append test (xs ++ ys) zs ∙ ap (λ n. n + count test zs) (count-append test xs ys)

module _ {D K G C : Type 0} (x : Config D K G C) where
  -- the tests of the fresh votes after an event
  abbrev passes_after : History D K G C → Event D K G C → (Vote G D → Bool) → Vote G D → Bool
  passes_after past event test v = is_eligible x.same_digest (selected_proposal x (event ∷ past)) v && test v

  pub open_before : (past : History D K G C) (event : Event D K G C) (kind : Kind)
      → (is_certified (event ∷ past) kind || is_skipped x.mode) ≡ false
      → (is_certified past kind || is_skipped x.mode) ≡ false
  open_before past event kind h = let o = or_parts _ _ h in rw (certified_before past event kind o.0, o.1) refl

  -- what is new is neither tried nor restored, and trusted where it is own
  pub new_not_tried : (past : History D K G C) (v : Vote G D)
      → vote_at (first_votes x past) (kind_of v) (signer_of v) ≡ None
      → was_eligible (trials x past) v ≡ false
  new_not_tried past v free = false_from_ne_true _ (λ h. let no : false ≡ true = sym (ap is_some free) ∙ tried_filled x past v h in cc)

  -- at a call that casts a vote no batch is given
  pub no_trial : (past : History D K G C) (event : Event D K G C) (v : Vote G D)
      → batch_given event.1 ≡ None → was_eligible (trials x (event ∷ past)) v
      ≡ was_eligible (trials x past) v
  no_trial past event v none =
      tried_after x past event v ∙ ap (λ o. ((is_some o && is_some_and (ready_kind x past) (λ k. is_kind k (kind_of v)))
      && is_among (signer_of v) (map signer_of (eligible_votes x past (kind_of v)))) || was_eligible (trials x past) v) none

  pub no_finding : (past : History D K G C) (event : Event D K G C) (v : Vote G D)
      → batch_given event.1 ≡ None → was_invalid (trials x (event ∷ past)) v
      ≡ was_invalid (trials x past) v
  no_finding past event v none =
      invalid_after x past event v ∙ ap (λ o. ((is_some o && is_some_and (ready_kind x past) (λ k. is_kind k (kind_of v)))
      && is_among (signer_of v) (invalid_in x o)) || was_invalid (trials x past) v) none

  not_own : (past : History D K G C) (v : Vote G D)
      → vote_at (first_votes x past) (kind_of v) (signer_of v) ≡ None
      → holds_vote (own_first_votes x past) v ≡ false
  not_own past v free = false_from_ne_true _ (λ h. let no : false ≡ true = sym (ap is_some free) ∙ own_filled x past v h in cc)

  pub not_restored : (past : History D K G C) (event : Event D K G C) (v : Vote G D)
      → vote_at (first_votes x past) (kind_of v) (signer_of v) ≡ None
      → holds_vote (restored_votes x (event ∷ past)) v ≡ false
  not_restored past event v free =
      list_any-append (is_vote_of (kind_of v) (signer_of v)) (votes_restored_by x past event) (restored_votes x past)
      ∙ (ap (λ b. b || holds_vote (restored_votes x past) v)
      (any_filtered (is_restored x past event) (first_votes x past) (kind_of v) (signer_of v) (firsts_apart x past)
      ∙ ap (λ o. is_some_and o (is_restored x past event)) free)
      ∙ false_from_ne_true _ (λ h. let no : false ≡ true = sym (ap is_some free) ∙ restored_filled x past v h in cc))

  -- no batch where the call isn't a construction
  pub no_batch : (past : History D K G C) (call : Call K G C D) (answer : Answer G C D)
      → MayAnswer x past call answer → (call ≡ ConstructCall → ⊥) → batch_given answer ≡ None
  no_batch past call answer may other =
      ⊎_elim (λ none. none)
      (λ (some : (b : Batch (Certificate C D)) × (batch_given answer ≡ Some b)). absurd (other (batch_made x past call answer some.0 may some.1).constructs))
      (option_cases (batch_given answer))

  -- the tests of the fresh and the proven votes
  abbrev pub is_fresh : History D K G C → Kind → (Vote G D → Bool) → Vote G D → Bool
  is_fresh past kind test v =
      is_of_kind kind v && (is_eligible x.same_digest (selected_proposal x past) v && (not (is_trusted x past v || was_eligible (trials x past) v) && test v))

  abbrev pub is_proven : History D K G C → Kind → (Vote G D → Bool) → Vote G D → Bool
  is_proven past kind test v =
      is_of_kind kind v && (is_eligible x.same_digest (selected_proposal x past) v
      && (((is_trusted x past v || was_eligible (trials x past) v) && not (was_invalid (trials x past) v)) && test v))

  own_is_trusted : (past : History D K G C) (vote : Vote G D) (answer : Answer G C D)
      → is_free (first_votes x past) vote ≡ true → is_trusted x ((OwnCall vote, answer) ∷ past) vote
      ≡ true
  own_is_trusted past vote answer free =
      let own : holds_vote (own_first_votes x ((OwnCall vote, answer) ∷ past)) vote ≡ true = rw (free, is_itself vote) refl in
      and_from _ _ own (ap not (not_restored past (OwnCall vote, answer) vote (free_is_new (first_votes x past) vote free)))

  new_not_invalid : (past : History D K G C) (v : Vote G D) → IsPossible x past
      → vote_at (first_votes x past) (kind_of v) (signer_of v) ≡ None
      → was_invalid (trials x past) v ≡ false
  new_not_invalid past v possible free =
      false_from_ne_true _ (λ h. let no : false ≡ true = sym (new_not_tried past v free) ∙ invalid_tried x past possible v h in cc)

  -- The new votes that count as fresh are those that arrive from the network.
  new_are_fresh : (past : History D K G C) (call : Call K G C D) (answer : Answer G C D)
      (kind : Kind) (test : Vote G D → Bool) → MayAnswer x past call answer →
      count (is_fresh ((call, answer) ∷ past) kind test) (new_votes x past (call, answer))
      ≡ count (passes_after past (call, answer) test) (arrivals x past kind (sent_votes x call))
  new_are_fresh past (NetworkCall sender vote) answer kind test may =
      count-filter (is_fresh ((NetworkCall sender vote, answer) ∷ past) kind test) (is_free (first_votes x past)) (cast_votes x (NetworkCall sender vote))
      ∙ (count_same _ _ (cast_votes x (NetworkCall sender vote)) each
      ∙ (sym (count-filter (passes_after past (NetworkCall sender vote, answer) test) (λ v. is_of_kind kind v && is_free (first_votes x past) v)
      (cast_votes x (NetworkCall sender vote)))
      ∙ ap (λ vs. count (passes_after past (NetworkCall sender vote, answer) test) (filter (λ v. is_of_kind kind v && is_free (first_votes x past) v) vs))
      (append-nil (sent_votes x (NetworkCall sender vote)))))
    where
      none : batch_given answer ≡ None
      none = no_batch past (NetworkCall sender vote) answer may (λ e. cc)

      each : (v : Vote G D) → (is_free (first_votes x past) v
          && is_fresh ((NetworkCall sender vote, answer) ∷ past) kind test v)
          ≡ ((is_of_kind kind v && is_free (first_votes x past) v)
          && passes_after past (NetworkCall sender vote, answer) test v)
      each v =
          new_fresh (is_free (first_votes x past) v) (is_of_kind kind v)
          (is_eligible x.same_digest (selected_proposal x ((NetworkCall sender vote, answer) ∷ past)) v)
          (is_trusted x ((NetworkCall sender vote, answer) ∷ past) v) (was_eligible (trials x ((NetworkCall sender vote, answer) ∷ past)) v) (test v)
          (λ free. ap (λ b. b && not (holds_vote (restored_votes x ((NetworkCall sender vote, answer) ∷ past)) v))
          (not_own past v (free_is_new (first_votes x past) v free)))
          (λ free. no_trial past (NetworkCall sender vote, answer) v none ∙ new_not_tried past v (free_is_new (first_votes x past) v free))
  new_are_fresh past (OwnCall vote) answer kind test may =
      count-filter (is_fresh ((OwnCall vote, answer) ∷ past) kind test) (is_free (first_votes x past)) (vote ∷ [])
      ∙ ap (λ b. cond b 1 0 + 0)
      (new_trusted (is_free (first_votes x past) vote) (is_of_kind kind vote)
      (is_eligible x.same_digest (selected_proposal x ((OwnCall vote, answer) ∷ past)) vote)
      (is_trusted x ((OwnCall vote, answer) ∷ past) vote) (was_eligible (trials x ((OwnCall vote, answer) ∷ past)) vote) (test vote)
      (own_is_trusted past vote answer))
  new_are_fresh past (CertificateCall certificate) answer kind test may = refl
  new_are_fresh past (LeaderCall named) answer kind test may = refl
  new_are_fresh past ConstructCall answer kind test may = refl
  new_are_fresh past (ForwardCall me) answer kind test may = refl
  new_are_fresh past (MissingCall p) answer kind test may = refl

  new_are_proven : (past : History D K G C) (call : Call K G C D) (answer : Answer G C D)
      (kind : Kind) (test : Vote G D → Bool) → IsPossible x past → MayAnswer x past call answer →
      count (is_proven ((call, answer) ∷ past) kind test) (new_votes x past (call, answer))
      ≡ count (passes_after past (call, answer) test) (arrivals x past kind (own_votes call))
  new_are_proven past (NetworkCall sender vote) answer kind test possible may =
      count-filter (is_proven ((NetworkCall sender vote, answer) ∷ past) kind test) (is_free (first_votes x past)) (cast_votes x (NetworkCall sender vote))
      ∙ (count_same _ (λ _. false) (cast_votes x (NetworkCall sender vote)) each ∙ count-false (cast_votes x (NetworkCall sender vote)))
    where
      none : batch_given answer ≡ None
      none = no_batch past (NetworkCall sender vote) answer may (λ e. cc)

      each : (v : Vote G D) → (is_free (first_votes x past) v
          && is_proven ((NetworkCall sender vote, answer) ∷ past) kind test v) ≡ false
      each v =
          new_unproven (is_free (first_votes x past) v) (is_of_kind kind v)
          (is_eligible x.same_digest (selected_proposal x ((NetworkCall sender vote, answer) ∷ past)) v)
          (is_trusted x ((NetworkCall sender vote, answer) ∷ past) v) (was_eligible (trials x ((NetworkCall sender vote, answer) ∷ past)) v)
          (was_invalid (trials x ((NetworkCall sender vote, answer) ∷ past)) v) (test v)
          (λ free. ap (λ b. b && not (holds_vote (restored_votes x ((NetworkCall sender vote, answer) ∷ past)) v))
          (not_own past v (free_is_new (first_votes x past) v free)))
          (λ free. no_trial past (NetworkCall sender vote, answer) v none ∙ new_not_tried past v (free_is_new (first_votes x past) v free))
  new_are_proven past (OwnCall vote) answer kind test possible may =
      count-filter (is_proven ((OwnCall vote, answer) ∷ past) kind test) (is_free (first_votes x past)) (vote ∷ [])
      ∙ (ap (λ b. cond b 1 0 + 0)
      (new_proven (is_free (first_votes x past) vote) (is_of_kind kind vote)
      (is_eligible x.same_digest (selected_proposal x ((OwnCall vote, answer) ∷ past)) vote)
      (is_trusted x ((OwnCall vote, answer) ∷ past) vote) (was_eligible (trials x ((OwnCall vote, answer) ∷ past)) vote)
      (was_invalid (trials x ((OwnCall vote, answer) ∷ past)) vote) (test vote) (own_is_trusted past vote answer)
      (λ free. no_finding past (OwnCall vote, answer) vote none ∙ new_not_invalid past vote possible (free_is_new (first_votes x past) vote free)))
      ∙ sym (count-filter (passes_after past (OwnCall vote, answer) test) (λ v. is_of_kind kind v && is_free (first_votes x past) v) (vote ∷ [])))
    where
      none : batch_given answer ≡ None
      none = no_batch past (OwnCall vote) answer may (λ e. cc)
  new_are_proven past (CertificateCall certificate) answer kind test possible may = refl
  new_are_proven past (LeaderCall named) answer kind test possible may = refl
  new_are_proven past ConstructCall answer kind test possible may = refl
  new_are_proven past (ForwardCall me) answer kind test possible may = refl
  new_are_proven past (MissingCall p) answer kind test possible may = refl

proven_table : (t k w w' own rest td i a cb T : Bool) →
    (cb ≡ false → w' ≡ true → w ≡ true) → (cb ≡ true → w ≡ false) → (cb ≡ true → td ≡ false)
    → (i ≡ true → td ≡ true) →
    cond (k && (w && ((((own && not rest) || td) && not i) && (w' && T)))) 1 0 + cond
    (t && (k && (w && (not ((own && not rest) || td) && (a && (w' && T)))))) 1 0
    ≡ cond (k && (w' && ((((own && not (cb || rest)) || ((t && w) || td))
    && not ((t && (w && (not ((own && not rest) || td) && not a))) || i)) && T))) 1 0
proven_table true false w w' own rest td i a cb T p q r s = refl
proven_table false false w w' own rest td i a cb T p q r s = refl
proven_table t true w w' own rest td i a true T p q r s = rw (q refl, r refl) (back t w' own i T)
  where
    back : (t w' own i T : Bool) → cond false 1 0 + cond (t && false) 1 0
        ≡ cond (w' && ((((own && false) || ((t && false) || false)) && not ((t && false) || i))
        && T)) 1 0
    back true true true i T = refl
    back true true false i T = refl
    back true false own i T = refl
    back false true true i T = refl
    back false true false i T = refl
    back false false own i T = refl
proven_table t true w false own rest td i a false T p q r s = gone t w (((own && not rest) || td) && not i) (not ((own && not rest) || td)) a
  where
    zeros : (t n a : Bool) → 0 + cond (t && (n && (a && false))) 1 0 ≡ 0
    zeros true true true = refl
    zeros true true false = refl
    zeros true false a = refl
    zeros false n a = refl

    gone : (t w m n a : Bool) → cond (w && (m && false)) 1 0 + cond
        (t && (w && (n && (a && false)))) 1 0 ≡ 0
    gone t true true n a = zeros t n a
    gone t true false n a = zeros t n a
    gone true false m n a = refl
    gone false false m n a = refl
proven_table t true w true own rest td i a false T p q r s = rw (p refl refl) (stays t (own && not rest) td i a T s)
  where
    stays : (t o td i a T : Bool) → (i ≡ true → td ≡ true) →
        cond (((o || td) && not i) && T) 1 0 + cond (t && (not (o || td) && (a && T))) 1 0
        ≡ cond (((o || ((t && true) || td)) && not ((t && (not (o || td) && not a)) || i)) && T)
        1 0
    stays true true td i a T s = omega arith
    stays false true td i a T s = omega arith
    stays true false true i a T s = omega arith
    stays false false true i a T s = omega arith
    stays t false false true a T s = let no : false ≡ true = s refl in cc
    stays true false false false true T s = omega arith
    stays true false false false false T s = omega arith
    stays false false false false a T s = omega arith

module _ {D K G C : Type 0} (x : Config D K G C) (lawful : HasLaws x) where
  pub trusted_after : (past : History D K G C) (event : Event D K G C) (v : Vote G D)
      → IsAt (first_votes x past) v →
      is_trusted x (event ∷ past) v ≡ (holds_vote (own_first_votes x past) v
      && not (is_restored x past event v || holds_vote (restored_votes x past) v))
  trusted_after past event v found =
      ap (λ o. o && not (holds_vote (restored_votes x (event ∷ past)) v)) (own_stays x past event v found)
      ∙ ap (λ r. holds_vote (own_first_votes x past) v && not r) (restored_after x past event v found)

  pub tried_of : (past : History D K G C) (event : Event D K G C) (v : Vote G D)
      → IsAt (first_votes x past) v → (is_certified past (kind_of v) || is_skipped x.mode) ≡ false →
      was_eligible (trials x (event ∷ past)) v
      ≡ ((tries_kind x past event.1 (kind_of v)
      && is_eligible x.same_digest (selected_proposal x past) v) || was_eligible (trials x past) v)
  tried_of past event v found still =
      tried_after x past event v
      ∙ ap (λ b. (tries_kind x past event.1 (kind_of v) && b) || was_eligible (trials x past) v)
      (among_eligible x past (kind_of v) (signer_of v)
      ∙ (ap (λ c. not c && is_some_and (first_vote x past (kind_of v) (signer_of v)) (is_eligible x.same_digest (selected_proposal x past))) still
      ∙ ap (λ o. is_some_and o (is_eligible x.same_digest (selected_proposal x past))) found))

  pub record OpenTrial (past : History D K G C) (old : RoundState G D) (event : Event D K G C)
      (kind : Kind) : Type 0 where
    pub batch : Batch (Certificate C D)
    pub given : batch_given event.1 ≡ Some batch
    pub tried : Attempt x (of_kind old.buffered.verified kind) (of_kind old.buffered.pending kind)
        batch
    pub invalid : batch.invalid ≡ bad_signers x (of_kind old.buffered.pending kind)
    pub all_tried : votes_checked (quorum_in x) (of_kind old.buffered.verified kind)
        (of_kind old.buffered.pending kind) ≡ of_kind old.buffered.pending kind

  -- a batch that leaves its kind open gave no certificate, and looked at all pending votes
  pub open_trial : (past : History D K G C) (old : RoundState G D) (event : Event D K G C)
      (kind : Kind)
      → Represents x past old → MayAnswer x past event.0 event.1 → TriesBuffers x past old event →
      tries_kind x past event.1 kind ≡ true → is_certified (event ∷ past) kind ≡ false
      → OpenTrial past old event kind
  open_trial past old event kind represents may buffers tries still =
      let t = tries_by x past event.0 event.1 kind may tries in
      let with_batch =
      subst (λ (o : Option (Batch (Certificate C D))). IfSome o
      (λ batch. (k : Kind) × ((ready_kind x past ≡ Some k) × Attempt x (of_kind old.buffered.verified k) (of_kind old.buffered.pending k) batch))) t.given
      buffers in
      let one : with_batch.0 ≡ kind = same_Some _ _ (sym with_batch.1.0 ∙ t.ready) in
      let tried : Attempt x (of_kind old.buffered.verified kind) (of_kind old.buffered.pending kind) t.batch =
      subst (λ (k : Kind). Attempt x (of_kind old.buffered.verified k) (of_kind old.buffered.pending k) t.batch) one with_batch.1.1 in
      let none : is_some t.batch.certificate ≡ false = false_from_ne_true _ (λ some.
      let certified : is_certified (event ∷ past) kind ≡ true =
      given_certified x lawful past event.0 event.1 kind (of_kind old.buffered.verified kind) (of_kind old.buffered.pending kind) t.batch may t.given tried
      (represents.each_kind kind).verified_are (represents.each_kind kind).pending_are some in
      let no : false ≡ true = sym still ∙ certified in cc) in
      let all = bad_of_all x (of_kind old.buffered.verified kind) (of_kind old.buffered.pending kind) t.batch tried none in
      record { batch = t.batch; given = t.given; tried = tried; invalid = all.0; all_tried = all.1 }

  pub invalid_of : (past : History D K G C) (old : RoundState G D) (event : Event D K G C)
      (v : Vote G D)
      → Represents x past old → MayAnswer x past event.0 event.1 → TriesBuffers x past old event →
      IsAt (first_votes x past) v → (is_certified (event ∷ past) (kind_of v) || is_skipped x.mode)
      ≡ false →
      was_invalid (trials x (event ∷ past)) v
      ≡ ((tries_kind x past event.1 (kind_of v)
      && (is_eligible x.same_digest (selected_proposal x past) v
      && (not (is_trusted x past v || was_eligible (trials x past) v) && not (is_valid x v))))
      || was_invalid (trials x past) v)
  invalid_of past old event v represents may buffers found still =
      invalid_after x past event v
      ∙ ap (λ b. b || was_invalid (trials x past) v)
      (⊎_elim
      (λ tries.
      let o = open_trial past old event (kind_of v) represents may buffers tries (or_parts _ _ still).0 in
      ap (λ t. t && is_among (signer_of v) (invalid_in x (batch_given event.1))) tries
      ∙ (ap (λ b. is_among (signer_of v) (invalid_in x b)) o.given
      ∙ (ap (λ l. is_among (signer_of v) (map (λ j. j.0) l)) o.invalid
      ∙ (any_bad_fresh x past (kind_of v) (of_kind old.buffered.pending (kind_of v)) (signer_of v) (open_before x past event (kind_of v) still)
      (represents.each_kind (kind_of v)).pending_are
      ∙ (ap (λ f. is_some_and f (is_fresh_bad x past)) found
      ∙ ap (λ t. t && is_fresh_bad x past v) (sym tries))))))
      (λ none. ap (λ t. t && is_among (signer_of v) (invalid_in x (batch_given event.1))) none ∙ ap (λ t. t && is_fresh_bad x past v) (sym none))
      (cases_Bool (tries_kind x past event.1 (kind_of v))))

  -- THE PENDING VOTES

  abbrev FreshAt : History D K G C → Event D K G C → (Vote G D → Bool) → Vote G D → Kind → Type 0
  FreshAt past event test v k =
      cond (not (tries_kind x past event.1 k) && is_fresh x past k (passes_after x past event test) v) 1 0 + cond
      (is_of_kind k v && (is_restored x past event v && passes_after x past event test v)) 1 0
      ≡ cond (is_fresh x (event ∷ past) k test v) 1 0

  other_kind_fresh : (t k a b c : Bool) → k ≡ false
      → cond (not t && (k && a)) 1 0 + cond (k && b) 1 0 ≡ cond (k && c) 1 0
  other_kind_fresh true k a b c h = rw h refl
  other_kind_fresh false k a b c h = rw h refl

  fresh_at : (past : History D K G C) (event : Event D K G C) (test : Vote G D → Bool)
      (v : Vote G D) → IsPossible x past → IsAt (first_votes x past) v →
      (is_certified (event ∷ past) (kind_of v) || is_skipped x.mode) ≡ false
      → FreshAt past event test v (kind_of v)
  fresh_at past event test v possible found still =
      fresh_table (tries_kind x past event.1 (kind_of v)) (is_of_kind (kind_of v) v) (is_eligible x.same_digest (selected_proposal x past) v)
      (is_eligible x.same_digest (selected_proposal x (event ∷ past)) v)
      (holds_vote (own_first_votes x past) v) (holds_vote (restored_votes x past) v) (was_eligible (trials x past) v) (is_restored x past event v) (test v)
      (waited_before x lawful past event v (or_parts _ _ still).0) (back_eligible_after x lawful past event v) (back_eligible_before x lawful past event v)
      (back_not_tried x lawful past event possible v found)
      ∙ sym (ap (λ r. cond (is_of_kind (kind_of v) v &&
      (is_eligible x.same_digest (selected_proposal x (event ∷ past)) v && (not (r || was_eligible (trials x (event ∷ past)) v) && test v))) 1 0)
      (trusted_after past event v found)
      ∙ ap (λ d. cond (is_of_kind (kind_of v) v && (is_eligible x.same_digest (selected_proposal x (event ∷ past)) v
      && (not ((holds_vote (own_first_votes x past) v && not (is_restored x past event v || holds_vote (restored_votes x past) v)) || d) && test v))) 1 0)
      (tried_of past event v found (open_before x past event (kind_of v) still)))

  old_fresh : (past : History D K G C) (event : Event D K G C) (kind : Kind)
      (test : Vote G D → Bool) → IsPossible x past
      → (is_certified (event ∷ past) kind || is_skipped x.mode) ≡ false →
      count (λ v. not (tries_kind x past event.1 kind)
      && is_fresh x past kind (passes_after x past event test) v) (first_votes x past)
      + count (λ v. is_of_kind kind v &&
      (is_restored x past event v && passes_after x past event test v)) (first_votes x past)
      ≡ count (is_fresh x (event ∷ past) kind test) (first_votes x past)
  old_fresh past event kind test possible still =
      count_sum _ _ _ (first_votes x past) (firsts_apart x past) (λ v found.
      ⊎_elim
      (λ is. let e : kind_of v ≡ kind = is_kind-true _ _ is in subst
      (λ (k : Kind). (is_certified (event ∷ past) k || is_skipped x.mode) ≡ false → FreshAt past event test v k) e
      (fresh_at past event test v possible found) still)
      (λ other. other_kind_fresh (tries_kind x past event.1 kind) (is_of_kind kind v) _ _ _ other)
      (cases_Bool (is_of_kind kind v)))

  count_eligible : (past : History D K G C) (event : Event D K G C) (kind : Kind)
      (votes : List (Vote G D)) (test : Vote G D → Bool)
      → (is_certified (event ∷ past) kind || is_skipped x.mode) ≡ false →
      count test (eligible_among x (event ∷ past) kind votes)
      ≡ count (passes_after x past event test) votes
  count_eligible past event kind votes test still =
      ap (count test) (open_eligible x (event ∷ past) kind votes still) ∙ count-filter test
      (is_eligible x.same_digest (selected_proposal x (event ∷ past))) votes

  left_fresh : (past : History D K G C) (old : RoundState G D) (event : Event D K G C) (kind : Kind)
      (test : Vote G D → Bool) → Represents x past old
      → (is_certified past kind || is_skipped x.mode)
      ≡ false →
      count test (cond (tries_kind x past event.1 kind) [] (of_kind old.buffered.pending kind))
      ≡ count (λ v. not (tries_kind x past event.1 kind) && is_fresh x past kind test v)
      (first_votes x past)
  left_fresh past old event kind test represents still =
      ⊎_elim
      (λ tries. ap (λ (t : Bool). count test (cond t [] (of_kind old.buffered.pending kind))) tries
      ∙ (sym (count-false (first_votes x past)) ∙ ap (λ (t : Bool). count (λ v. not t && is_fresh x past kind test v) (first_votes x past)) (sym tries)))
      (λ none. ap (λ (t : Bool). count test (cond t [] (of_kind old.buffered.pending kind))) none
      ∙ ((represents.each_kind kind).pending_are test ∙ (count_fresh x past kind test still
      ∙ ap (λ (t : Bool). count (λ v. not t && is_fresh x past kind test v) (first_votes x past)) (sym none))))
      (cases_Bool (tries_kind x past event.1 kind))

  kept_in_full : (past : History D K G C) (old : RoundState G D) (kind : Kind)
      → Represents x past old
      → (is_certified past kind || is_skipped x.mode) ≡ false →
      of_kind old.tracked.kept kind ≡ first_by_signer x past kind
  kept_in_full past old kind represents still =
      let o = or_parts _ _ still in
      let not_released : is_released x past kind ≡ false = released_where x.mode (is_certified past kind) o.1 o.0 in
      (represents.each_kind kind).kept_are ∙ ap (λ (b : Bool). cond b [] (first_by_signer x past kind)) not_released

  restored_count : (past : History D K G C) (old : RoundState G D) (event : Event D K G C)
      (kind : Kind)
      (test : Vote G D → Bool) → Represents x past old
      → (is_certified past kind || is_skipped x.mode)
      ≡ false →
      count test (filter (is_restored x past event) (of_kind old.tracked.kept kind))
      ≡ count (λ v. is_of_kind kind v && (is_restored x past event v && test v))
      (first_votes x past)
  restored_count past old event kind test represents still =
      count-filter test (is_restored x past event) (of_kind old.tracked.kept kind)
      ∙ (ap (count (λ v. is_restored x past event v && test v)) (kept_in_full past old kind represents still)
      ∙ (count_ordered (λ v. is_restored x past event v && test v) signer_of (filter (is_of_kind kind) (first_votes x past))
      ∙ count-filter (λ v. is_restored x past event v && test v) (is_of_kind kind) (first_votes x past)))

  -- what is left, what is restored and what is new
  pending_counted : (past : History D K G C) (old : RoundState G D) (event : Event D K G C)
      (kind : Kind)
      (test : Vote G D → Bool) → (is_certified (event ∷ past) kind || is_skipped x.mode) ≡ false →
      count test (pending_after x past old event kind)
      ≡ (count (passes_after x past event test)
      (cond (tries_kind x past event.1 kind) [] (of_kind old.buffered.pending kind))
      + count (passes_after x past event test)
      (filter (is_restored x past event) (of_kind old.tracked.kept kind)))
      + count (passes_after x past event test) (arrivals x past kind (sent_votes x event.0))
  pending_counted past old event kind test still =
      count_eligible past event kind (cond (tries_kind x past event.1 kind) [] (of_kind old.buffered.pending kind)
      ++ filter (is_restored x past event) (of_kind old.tracked.kept kind) ++ arrivals x past kind (sent_votes x event.0)) test still
      ∙ count-three (passes_after x past event test) (cond (tries_kind x past event.1 kind) [] (of_kind old.buffered.pending kind))
      (filter (is_restored x past event) (of_kind old.tracked.kept kind)) (arrivals x past kind (sent_votes x event.0))

  fresh_counted : (past : History D K G C) (event : Event D K G C) (kind : Kind)
      (test : Vote G D → Bool) → (is_certified (event ∷ past) kind || is_skipped x.mode) ≡ false →
      count test (fresh_votes x (event ∷ past) kind)
      ≡ count (is_fresh x (event ∷ past) kind test) (new_votes x past event) + count
      (is_fresh x (event ∷ past) kind test) (first_votes x past)
  fresh_counted past event kind test still =
      count_fresh x (event ∷ past) kind test still ∙ count-append (is_fresh x (event ∷ past) kind test) (new_votes x past event) (first_votes x past)

  pending_open : (past : History D K G C) (old : RoundState G D) (call : Call K G C D)
      (answer : Answer G C D) (kind : Kind) (test : Vote G D → Bool) → Represents x past old
      → MayAnswer x past call answer →
      (is_certified ((call, answer) ∷ past) kind || is_skipped x.mode) ≡ false →
      count test (pending_after x past old (call, answer) kind)
      ≡ count test (fresh_votes x ((call, answer) ∷ past) kind)
  pending_open past old call answer kind test represents may still =
      let before = open_before x past (call, answer) kind still in
      sums (pending_counted past old (call, answer) kind test still)
      (left_fresh past old (call, answer) kind (passes_after x past (call, answer) test) represents before)
      (restored_count past old (call, answer) kind (passes_after x past (call, answer) test) represents before)
      (new_are_fresh x past call answer kind test may)
      (old_fresh past (call, answer) kind test represents.possible still)
      (fresh_counted past (call, answer) kind test still)
    where
      sums : {all l r n m f g h now : ℕ} → all ≡ (l + r) + m → l ≡ f → r ≡ g → n ≡ m → f + g ≡ h
          → now ≡ n + h → all ≡ now
      sums is a b c d e = omega (arith, is, a, b, c, d, e)

  pending_closed : (past : History D K G C) (old : RoundState G D) (event : Event D K G C)
      (kind : Kind)
      (test : Vote G D → Bool) → (is_certified (event ∷ past) kind || is_skipped x.mode) ≡ true →
      count test (pending_after x past old event kind)
      ≡ count test (fresh_votes x (event ∷ past) kind)
  pending_closed past old event kind test closed =
      ap (count test) (nothing_eligible x (event ∷ past) kind
      (cond (tries_kind x past event.1 kind) [] (of_kind old.buffered.pending kind) ++ filter (is_restored x past event) (of_kind old.tracked.kept kind)
      ++ arrivals x past kind (sent_votes x event.0)) closed
      ∙ sym (closed_is_empty x (event ∷ past) kind closed).0)

  -- The pending votes of a kind after a call are the fresh ones.
  pub pending_follow : (past : History D K G C) (old : RoundState G D) (call : Call K G C D)
      (answer : Answer G C D) (kind : Kind) → Represents x past old → MayAnswer x past call answer →
      SameElements (pending_after x past old (call, answer) kind)
      (fresh_votes x ((call, answer) ∷ past) kind)
  pending_follow past old call answer kind represents may test =
      ⊎_elim (pending_closed past old (call, answer) kind test) (pending_open past old call answer kind test represents may)
      (cases_Bool (is_certified ((call, answer) ∷ past) kind || is_skipped x.mode))

  -- THE VERIFIED VOTES

  abbrev ProvenAt : History D K G C → Event D K G C → (Vote G D → Bool) → Vote G D → Kind → Type 0
  ProvenAt past event test v k =
      cond (is_proven x past k (passes_after x past event test) v) 1 0 + cond
      (tries_kind x past event.1 k && is_fresh x past k (λ u. is_valid x u && passes_after x past event test u) v) 1 0
      ≡ cond (is_proven x (event ∷ past) k test v) 1 0

  other_kind_proven : (t k a b c : Bool) → k ≡ false → cond (k && a) 1 0 + cond (t && (k && b)) 1 0
      ≡ cond (k && c) 1 0
  other_kind_proven true k a b c h = rw h refl
  other_kind_proven false k a b c h = rw h refl

  proven_at : (past : History D K G C) (old : RoundState G D) (event : Event D K G C)
      (test : Vote G D → Bool) (v : Vote G D) → Represents x past old
      → MayAnswer x past event.0 event.1
      → TriesBuffers x past old event →
      IsAt (first_votes x past) v → (is_certified (event ∷ past) (kind_of v) || is_skipped x.mode)
      ≡ false → ProvenAt past event test v (kind_of v)
  proven_at past old event test v represents may buffers found still =
      proven_table (tries_kind x past event.1 (kind_of v)) (is_of_kind (kind_of v) v) (is_eligible x.same_digest (selected_proposal x past) v)
      (is_eligible x.same_digest (selected_proposal x (event ∷ past)) v)
      (holds_vote (own_first_votes x past) v) (holds_vote (restored_votes x past) v) (was_eligible (trials x past) v) (was_invalid (trials x past) v)
      (is_valid x v) (is_restored x past event v) (test v)
      (waited_before x lawful past event v (or_parts _ _ still).0) (back_eligible_before x lawful past event v)
      (back_not_tried x lawful past event represents.possible v found) (invalid_tried x past represents.possible v)
      ∙ sym (ap (λ r. cond (k && (w' && (((r || was_eligible (trials x (event ∷ past)) v) && not (was_invalid (trials x (event ∷ past)) v)) && test v))) 1 0)
      (trusted_after past event v found)
      ∙ (ap (λ d. cond (k && (w' && (((r' || d) && not (was_invalid (trials x (event ∷ past)) v)) && test v))) 1 0)
      (tried_of past event v found (open_before x past event (kind_of v) still))
      ∙ ap (λ i. cond
      (k && (w' &&
      (((r' || ((tries_kind x past event.1 (kind_of v) && is_eligible x.same_digest (selected_proposal x past) v) || was_eligible (trials x past) v))
      && not i) && test v))) 1 0)
      (invalid_of past old event v represents may buffers found still)))
    where
      k : Bool
      k = is_of_kind (kind_of v) v

      w' : Bool
      w' = is_eligible x.same_digest (selected_proposal x (event ∷ past)) v

      r' : Bool
      r' = holds_vote (own_first_votes x past) v && not (is_restored x past event v || holds_vote (restored_votes x past) v)

  old_proven : (past : History D K G C) (old : RoundState G D) (event : Event D K G C) (kind : Kind)
      (test : Vote G D → Bool) → Represents x past old → MayAnswer x past event.0 event.1
      → TriesBuffers x past old event →
      (is_certified (event ∷ past) kind || is_skipped x.mode) ≡ false →
      count (is_proven x past kind (passes_after x past event test)) (first_votes x past)
      + count (λ v. tries_kind x past event.1 kind
      && is_fresh x past kind (λ u. is_valid x u && passes_after x past event test u) v)
      (first_votes x past)
      ≡ count (is_proven x (event ∷ past) kind test) (first_votes x past)
  old_proven past old event kind test represents may buffers still =
      count_sum _ _ _ (first_votes x past) (firsts_apart x past) (λ v found.
      ⊎_elim
      (λ is. let e : kind_of v ≡ kind = is_kind-true _ _ is in subst
      (λ (k : Kind). (is_certified (event ∷ past) k || is_skipped x.mode) ≡ false → ProvenAt past event test v k) e
      (proven_at past old event test v represents may buffers found) still)
      (λ other. other_kind_proven (tries_kind x past event.1 kind) (is_of_kind kind v) _ _ _ other)
      (cases_Bool (is_of_kind kind v)))

  left_proven : (past : History D K G C) (old : RoundState G D) (event : Event D K G C)
      (kind : Kind)
      (test : Vote G D → Bool) → Represents x past old → MayAnswer x past event.0 event.1
      → TriesBuffers x past old event →
      is_certified (event ∷ past) kind ≡ false → (is_certified past kind || is_skipped x.mode)
      ≡ false →
      count test (cond (tries_kind x past event.1 kind)
      (left_verified x (of_kind old.buffered.verified kind) (of_kind old.buffered.pending kind))
      (of_kind old.buffered.verified kind))
      ≡ count (is_proven x past kind test) (first_votes x past) + count
      (λ v. tries_kind x past event.1 kind
      && is_fresh x past kind (λ u. is_valid x u && test u) v) (first_votes x past)
  left_proven past old event kind test represents may buffers still before =
      ⊎_elim
      (λ tries.
      let o = open_trial past old event kind represents may buffers tries still in
      let all : count test (left_verified x (of_kind old.buffered.verified kind) (of_kind old.buffered.pending kind))
      ≡ count test (of_kind old.buffered.verified kind) + count (λ v. is_valid x v && test v) (of_kind old.buffered.pending kind) =
      count-append test (of_kind old.buffered.verified kind)
      (filter (is_valid x) (votes_checked (quorum_in x) (of_kind old.buffered.verified kind) (of_kind old.buffered.pending kind)))
      ∙ ap (λ n. count test (of_kind old.buffered.verified kind) + n)
      (ap (λ votes. count test (filter (is_valid x) votes)) o.all_tried ∙ count-filter test (is_valid x) (of_kind old.buffered.pending kind)) in
      ap (λ (t : Bool). count test (cond t (left_verified x (of_kind old.buffered.verified kind) (of_kind old.buffered.pending kind))
      (of_kind old.buffered.verified kind))) tries
      ∙ (all
      ∙ (ap (λ n. n + count (λ v. is_valid x v && test v) (of_kind old.buffered.pending kind))
      ((represents.each_kind kind).verified_are test ∙ count_proven x past kind test before)
      ∙ (ap (λ n. count (is_proven x past kind test) (first_votes x past) + n)
      ((represents.each_kind kind).pending_are (λ v. is_valid x v && test v) ∙ count_fresh x past kind (λ v. is_valid x v && test v) before)
      ∙ ap (λ (t : Bool). count (is_proven x past kind test) (first_votes x past) + count (λ v. t && is_fresh x past kind (λ u. is_valid x u && test u) v)
      (first_votes x past)) (sym tries)))))
      (λ none. ap (λ (t : Bool). count test (cond t (left_verified x (of_kind old.buffered.verified kind) (of_kind old.buffered.pending kind))
      (of_kind old.buffered.verified kind))) none
      ∙ ((represents.each_kind kind).verified_are test ∙ (count_proven x past kind test before
      ∙ (plus_none _ _ (count-false (first_votes x past))
      ∙ ap (λ (t : Bool). count (is_proven x past kind test) (first_votes x past) + count (λ v. t && is_fresh x past kind (λ u. is_valid x u && test u) v)
      (first_votes x past)) (sym none)))))
      (cases_Bool (tries_kind x past event.1 kind))
    where
      plus_none : (n m : ℕ) → m ≡ 0 → n ≡ n + m
      plus_none n m h = omega arith

  verified_counted : (past : History D K G C) (old : RoundState G D) (event : Event D K G C)
      (kind : Kind)
      (test : Vote G D → Bool) → (is_certified (event ∷ past) kind || is_skipped x.mode) ≡ false →
      count test (verified_after x past old event kind)
      ≡ count (passes_after x past event test)
      (cond (tries_kind x past event.1 kind)
      (left_verified x (of_kind old.buffered.verified kind) (of_kind old.buffered.pending kind))
      (of_kind old.buffered.verified kind))
      + count (passes_after x past event test) (arrivals x past kind (own_votes event.0))
  verified_counted past old event kind test still =
      count_eligible past event kind (cond (tries_kind x past event.1 kind)
      (left_verified x (of_kind old.buffered.verified kind) (of_kind old.buffered.pending kind)) (of_kind old.buffered.verified kind)
      ++ arrivals x past kind (own_votes event.0)) test still
      ∙ count-append (passes_after x past event test) (cond (tries_kind x past event.1 kind)
      (left_verified x (of_kind old.buffered.verified kind) (of_kind old.buffered.pending kind)) (of_kind old.buffered.verified kind))
      (arrivals x past kind (own_votes event.0))

  proven_counted : (past : History D K G C) (event : Event D K G C) (kind : Kind)
      (test : Vote G D → Bool) → (is_certified (event ∷ past) kind || is_skipped x.mode) ≡ false →
      count test (proven_votes x (event ∷ past) kind)
      ≡ count (is_proven x (event ∷ past) kind test) (new_votes x past event) + count
      (is_proven x (event ∷ past) kind test) (first_votes x past)
  proven_counted past event kind test still =
      count_proven x (event ∷ past) kind test still ∙ count-append (is_proven x (event ∷ past) kind test) (new_votes x past event) (first_votes x past)

  verified_open : (past : History D K G C) (old : RoundState G D) (call : Call K G C D)
      (answer : Answer G C D) (kind : Kind) (test : Vote G D → Bool) → Represents x past old
      → MayAnswer x past call answer → TriesBuffers x past old (call, answer) →
      (is_certified ((call, answer) ∷ past) kind || is_skipped x.mode) ≡ false →
      count test (verified_after x past old (call, answer) kind)
      ≡ count test (proven_votes x ((call, answer) ∷ past) kind)
  verified_open past old call answer kind test represents may buffers still =
      sums (verified_counted past old (call, answer) kind test still)
      (left_proven past old (call, answer) kind (passes_after x past (call, answer) test) represents may buffers (or_parts _ _ still).0
      (open_before x past (call, answer) kind still))
      (new_are_proven x past call answer kind test represents.possible may)
      (old_proven past old (call, answer) kind test represents may buffers still)
      (proven_counted past (call, answer) kind test still)
    where
      sums : {all l n m f h now : ℕ} → all ≡ l + m → l ≡ f → n ≡ m → f ≡ h → now ≡ n + h → all ≡ now
      sums is a c d e = omega (arith, is, a, c, d, e)

  verified_closed : (past : History D K G C) (old : RoundState G D) (event : Event D K G C)
      (kind : Kind)
      (test : Vote G D → Bool) → (is_certified (event ∷ past) kind || is_skipped x.mode) ≡ true →
      count test (verified_after x past old event kind)
      ≡ count test (proven_votes x (event ∷ past) kind)
  verified_closed past old event kind test closed =
      ap (count test) (nothing_eligible x (event ∷ past) kind
      (cond (tries_kind x past event.1 kind) (left_verified x (of_kind old.buffered.verified kind) (of_kind old.buffered.pending kind))
      (of_kind old.buffered.verified kind) ++ arrivals x past kind (own_votes event.0)) closed
      ∙ sym (closed_is_empty x (event ∷ past) kind closed).1)

  -- The verified votes of a kind after a call are the proven ones.
  pub verified_follow : (past : History D K G C) (old : RoundState G D) (call : Call K G C D)
      (answer : Answer G C D) (kind : Kind) → Represents x past old → MayAnswer x past call answer
      → TriesBuffers x past old (call, answer) →
      SameElements (verified_after x past old (call, answer) kind)
      (proven_votes x ((call, answer) ∷ past) kind)
  verified_follow past old call answer kind represents may buffers test =
      ⊎_elim (verified_closed past old (call, answer) kind test) (verified_open past old call answer kind test represents may buffers)
      (cases_Bool (is_certified ((call, answer) ∷ past) kind || is_skipped x.mode))
