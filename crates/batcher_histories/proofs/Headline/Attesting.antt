-- What holds of the votes that a history leaves: proven ones attest, those found invalid don't, and
-- no other one is lost.
use Rattle.batcher_histories.proofs.Words.{◌≡◌, ◌≤◌, ℕ, ◌+◌, Bool, true, false, not, cond, ◌&&◌, ◌||◌, List, [], ◌∷◌, ◌++◌, map, Option, Some, None, refl, ap}
use Rattle.batcher_histories.proofs.Words.{sym, ◌∙◌, arith, ⊎_elim, eqb, subst, IfSome, filter, find, is_some, list_any, list_all, AllPass, cases_Bool}
use Rattle.batcher_histories.proofs.Words.{and_parts, and_from, or_left, or_right, or_cases, or_parts, true≢false, false≢true, eq-eqb, false_from_ne_true}
use Rattle.batcher_histories.proofs.Words.{not-true, same_Some, list_any-append, AllPass-from_list_all, Participant, Proposal, Vote, Kind, Certificate, Batch}
use Rattle.batcher_histories.proofs.Words.{Call, NetworkCall, OwnCall, CertificateCall, LeaderCall, ConstructCall, ForwardCall, MissingCall, Answer, Config}
use Rattle.batcher_histories.proofs.Words.{count, is_some_and, EachOnce, SameElements, kind_of, signer_of, is_of_kind, is_vote_of, has_proposals, is_for}
use Rattle.batcher_histories.proofs.Words.{is_eligible, count-append, count-false, count_same, all_count, once_fewer, count-filter, is_kind-true, is_skipped}
use Rattle.batcher_histories.proofs.Words.{MayCall, Event, History, batch_given, own_votes, first_votes, first_vote, own_first_votes, is_free}
use Rattle.batcher_histories.proofs.Words.{selected_proposal, is_certified, is_among, is_trusted, is_valid, holds_vote, was_eligible, was_invalid, trials}
use Rattle.batcher_histories.proofs.Words.{eligible_votes, fresh_votes, proven_votes, ready_kind, tries_kind, IsPossible, bad_signers, NamesBadSigners}
use Rattle.batcher_histories.proofs.Words.{usable_votes, has_bad_vote}
use Rattle.batcher_histories.proofs.History.Laws.{HasLaws}
use Rattle.batcher_histories.proofs.History.Distinct.{IsAt, AreApart, count_at, firsts_apart, first_stays, found_here, found_behind, some_of, some_where}
use Rattle.batcher_histories.proofs.History.Past.{among_eligible, closed_is_empty, count_passed, count_proven, invalid_after, invalid_in, own_filled}
use Rattle.batcher_histories.proofs.History.Past.{tried_after, tried_filled, kind_and_signer}
use Rattle.batcher_histories.proofs.History.Selection.{certified_before}
use Rattle.batcher_histories.proofs.History.Attempts.{any_bad_fresh, bad_of_all, batch_made, found_among, given_certified, invalid_tried, is_fresh_bad}
use Rattle.batcher_histories.proofs.History.Attempts.{tries_by}

-- PROVEN VOTES ATTEST
module _ {G D : Type 0} where
  -- a test that fails on each vote that is found
  none_at : (test : Vote G D → Bool) (vs : List (Vote G D)) → AreApart vs
      → ((v : Vote G D) → IsAt vs v → test v ≡ false) → count test vs ≡ 0
  none_at test [] apart none = refl
  none_at test (v ∷ vs) apart none =
      let here = none v (found_here v vs) in
      let rest = none_at test vs apart.1 (λ w found. none w (found_behind v vs w apart.0 found)) in
      rw here (omega (arith, rest))

  -- a vote that is new is the one that is found
  new_is_found : (at : Vote G D → Bool) (vs : List (Vote G D)) (w v : Vote G D) (free : Bool)
      → find at (cond free (w ∷ []) [] ++ vs) ≡ Some v → list_any at (cond free (w ∷ []) []) ≡ true
      → w ≡ v
  new_is_found at vs w v true found h = by_mark (at w) found h
    where
      by_mark : (here : Bool) → cond here (Some w) (find at vs) ≡ Some v → (here || false) ≡ true
          → w ≡ v
      by_mark true e k = same_Some w v e
      by_mark false e k = absurd (false≢true k)
  new_is_found at vs w v false found h = absurd (false≢true h)

-- a test that all signers pass
all_among : (test : ℕ → Bool) (signers : List Participant)
    → ((i : ℕ) → is_among i (map (λ j. j.0) signers) ≡ true → test i ≡ true)
    → list_all (λ j. test j.0) signers ≡ true
all_among test [] each = refl
all_among test (j ∷ signers) each =
    and_from (test j.0) (list_all (λ l. test l.0) signers)
    (each j.0 (or_left (eqb j.0 j.0) (is_among j.0 (map (λ l. l.0) signers)) (eq-eqb j.0 j.0 refl)))
    (all_among test signers (λ i among. each i (or_right (eqb j.0 i) (is_among i (map (λ l. l.0) signers)) among)))

-- a weaker test of a value that is there
pub some_more : {X : Type 0} (p q : X → Bool) → ((v : X) → p v ≡ true → q v ≡ true) → (o : Option X)
    → is_some_and o p ≡ true → is_some_and o q ≡ true
some_more p q more None h = h
some_more p q more (Some v) h = more v h

-- counts that add up at each element add up
count_adds : {X : Type 0} (p q r : X → Bool) (xs : List X)
    → ((v : X) → cond (p v) 1 0 + cond (q v) 1 0 ≡ cond (r v) 1 0) → count p xs + count q xs
    ≡ count r xs
count_adds p q r [] adds = omega arith
count_adds p q r (v ∷ xs) adds = omega (arith, adds v, count_adds p q r xs adds)

-- and counts of two tests that never pass both, within a third
counts_within : {X : Type 0} (p q r : X → Bool) (xs : List X)
    → ((v : X) → cond (p v) 1 0 + cond (q v) 1 0 ≤ cond (r v) 1 0)
    → count p xs + count q xs ≤ count r xs
counts_within p q r [] within = omega arith
counts_within p q r (v ∷ xs) within = omega (arith, within v, counts_within p q r xs within)

one_of_two : (tried invalid passes : Bool)
    → cond (not tried && passes) 1 0 + cond ((tried && not invalid) && passes) 1 0 ≤ cond passes 1 0
one_of_two true true passes = omega arith
one_of_two true false passes = omega arith
one_of_two false invalid passes = omega arith

-- of what is eligible, by whether it is trusted, tried and invalid
fresh_or_proven : (trusted tried invalid passes : Bool) → (invalid ≡ true → tried ≡ true) →
    cond (not (trusted || tried) && passes) 1 0 + cond
    (((trusted || tried) && not invalid) && passes) 1 0 ≡ cond (not invalid && passes) 1 0
fresh_or_proven true tried invalid passes h = omega arith
fresh_or_proven false true invalid passes h = omega arith
fresh_or_proven false false true passes h = absurd (false≢true (h refl))
fresh_or_proven false false false passes h = omega arith

-- what has a proposal waits for the selected one alone
eligible_for_it : (of_kind has for_it : Bool) → (of_kind ≡ true → has ≡ true)
    → (of_kind && ((not has || for_it) && not for_it)) ≡ false
eligible_for_it true true true h = refl
eligible_for_it true true false h = refl
eligible_for_it true false for_it h = absurd (false≢true (h refl))
eligible_for_it false has for_it h = refl

-- what waits and isn't found bad, while it is fresh
attests_if : (is_eligible trusted tried valid : Bool) → is_eligible ≡ true
    → (is_eligible && (not (trusted || tried) && not valid)) ≡ false
    → (trusted ≡ true → valid ≡ true)
    → (tried ≡ true → valid ≡ true) → valid ≡ true
attests_if true true tried valid w h a b = a refl
attests_if true false true valid w h a b = b refl
attests_if true false false true w h a b = refl
attests_if true false false false w h a b = absurd (true≢false h)
attests_if false trusted tried valid w h a b = absurd (false≢true w)

module _ {D K G C : Type 0} (x : Config D K G C) where
  -- a vote that was there before an event is the one that is there after it
  found_before : (past : History D K G C) (event : Event D K G C) (v : Vote G D)
      → IsAt (first_votes x (event ∷ past)) v
      → is_some (first_vote x past (kind_of v) (signer_of v)) ≡ true → IsAt (first_votes x past) v
  found_before past event v found before =
      let w = some_of (first_vote x past (kind_of v) (signer_of v)) before in
      w.1 ∙ ap Some (same_Some w.0 v (sym (first_stays x past event (kind_of v) (signer_of v) w.0 w.1) ∙ found))

  -- where a vote of its kind and signer is eligible, that is of an open kind and waits
  eligible_eligible : (past : History D K G C) (v : Vote G D)
      → is_among (signer_of v) (map signer_of (eligible_votes x past (kind_of v))) ≡ true →
      (not (is_certified past (kind_of v) || is_skipped x.mode) ≡ true)
      × (is_some_and (first_vote x past (kind_of v) (signer_of v))
      (is_eligible x.same_digest (selected_proposal x past)) ≡ true)
  eligible_eligible past v among =
      and_parts (not (is_certified past (kind_of v) || is_skipped x.mode))
      (is_some_and (first_vote x past (kind_of v) (signer_of v)) (is_eligible x.same_digest (selected_proposal x past)))
      (sym (among_eligible x past (kind_of v) (signer_of v)) ∙ among)

  -- an own vote that an event brings attests
  own_attests_now : (past : History D K G C) (call : Call K G C D) (answer : Answer G C D)
      (v : Vote G D) → MayCall x.meaning x.number call
      → IsAt (first_votes x ((call, answer) ∷ past)) v →
      list_any (is_vote_of (kind_of v) (signer_of v))
      (filter (is_free (first_votes x past)) (own_votes call)) ≡ true → is_valid x v ≡ true
  own_attests_now past (OwnCall vote) answer v may found h =
      let same : vote ≡ v = new_is_found (is_vote_of (kind_of v) (signer_of v)) (first_votes x past) vote v (is_free (first_votes x past) vote) found h in
      subst (λ (u : Vote G D). is_valid x u ≡ true) same may.1
  own_attests_now past (NetworkCall sender vote) answer v may found h = absurd (false≢true h)
  own_attests_now past (CertificateCall certificate) answer v may found h = absurd (false≢true h)
  own_attests_now past (LeaderCall leader) answer v may found h = absurd (false≢true h)
  own_attests_now past ConstructCall answer v may found h = absurd (false≢true h)
  own_attests_now past (ForwardCall me) answer v may found h = absurd (false≢true h)
  own_attests_now past (MissingCall p) answer v may found h = absurd (false≢true h)

  -- An own first vote attests.
  pub own_attests : (past : History D K G C) → IsPossible x past → (v : Vote G D)
      → IsAt (first_votes x past) v → holds_vote (own_first_votes x past) v ≡ true → is_valid x v
      ≡ true
  own_attests [] possible v found own = absurd (false≢true own)
  own_attests (event ∷ past) possible v found own =
      ⊎_elim
      (λ now. own_attests_now past event.0 event.1 v possible.0 found now)
      (λ before. own_attests past possible.1.1.1 v (found_before past event v found (own_filled x past v before)) before)
      (or_cases _ _ (sym (list_any-append (is_vote_of (kind_of v) (signer_of v)) (filter (is_free (first_votes x past)) (own_votes event.0))
      (own_first_votes x past)) ∙ own))

  module _ (laws : HasLaws x) where
    -- A vote that is eligible at a batch, which leaves its kind open and doesn't name it, attests.
    attests_if_unnamed : (past : History D K G C) (event : Event D K G C)
        → IsPossible x (event ∷ past) → (v : Vote G D) → IsAt (first_votes x past) v
        → is_certified (event ∷ past) (kind_of v) ≡ false →
        tries_kind x past event.1 (kind_of v) ≡ true
        → is_among (signer_of v) (map signer_of (eligible_votes x past (kind_of v))) ≡ true →
        is_among (signer_of v) (invalid_in x (batch_given event.1)) ≡ false
        → (was_eligible (trials x past) v ≡ true → is_valid x v ≡ true) → is_valid x v ≡ true
    attests_if_unnamed past event possible v found still tries among unnamed before =
        let represents = eligible_eligible past v among in
        let eligible_now : is_eligible x.same_digest (selected_proposal x past) v
        ≡ true = ap (λ o. is_some_and o (is_eligible x.same_digest (selected_proposal x past))) (sym found) ∙ represents.1 in
        let t = tries_by x past event.0 event.1 (kind_of v) possible.1.1.0 tries in
        let none : is_some t.batch.certificate ≡ false = false_from_ne_true _ (λ some.
        true≢false (sym (given_certified x laws past event.0 event.1 (kind_of v) t.after.verified t.after.pending t.batch possible.1.1.0 t.given t.after.attempt
        t.after.verified_are t.after.pending_are some) ∙ still)) in
        let named = (bad_of_all x t.after.verified t.after.pending t.batch t.after.attempt none).0 in
        let not_bad : is_among (signer_of v) (map (λ j. j.0) (bad_signers x t.after.pending)) ≡ false =
        ap (λ (l : List Participant). is_among (signer_of v) (map (λ j. j.0) l)) (sym named)
        ∙ (ap (λ (o : Option (Batch (Certificate C D))). is_among (signer_of v) (invalid_in x o)) (sym t.given) ∙ unnamed) in
        let fresh : is_fresh_bad x past v ≡ false =
        ap (λ o. is_some_and o (is_fresh_bad x past)) (sym found)
        ∙ (sym (any_bad_fresh x past (kind_of v) t.after.pending (signer_of v) (not-true _ represents.0) t.after.pending_are) ∙ not_bad) in
        attests_if (is_eligible x.same_digest (selected_proposal x past) v) (is_trusted x past v) (was_eligible (trials x past) v)
        (is_valid x v) eligible_now fresh
        (λ trusted. own_attests past possible.1.1.1 v found (and_parts _ _ trusted).0)
        before

    -- What was eligible at a batch, is of a kind that is open and wasn't found invalid attests.
    pub tried_attests : (past : History D K G C) → IsPossible x past → (v : Vote G D)
        → IsAt (first_votes x past) v → is_certified past (kind_of v) ≡ false →
        was_eligible (trials x past) v ≡ true → was_invalid (trials x past) v ≡ false → is_valid x v
        ≡ true
    tried_attests [] possible v found still eligible good = absurd (false≢true eligible)
    tried_attests (event ∷ past) possible v found still eligible good =
        ⊎_elim
        (λ now.
        let parts = and_parts _ _ now in
        let at = found_before past event v found (some_where (is_eligible x.same_digest (selected_proposal x past)) _ (eligible_eligible past v parts.1).1) in
        attests_if_unnamed past event possible v at still parts.0 parts.1 (unnamed parts.0)
        (λ before. tried_attests past possible.1.1.1 v at (certified_before past event (kind_of v) still) before good_before))
        (λ before. tried_attests past possible.1.1.1 v (found_before past event v found (tried_filled x past v before))
        (certified_before past event (kind_of v) still) before good_before)
        (or_cases _ _ (sym (tried_after x past event v) ∙ eligible))
      where
        good_parts : ((tries_kind x past event.1 (kind_of v)
            && is_among (signer_of v) (invalid_in x (batch_given event.1))) ≡ false)
            × (was_invalid (trials x past) v ≡ false)
        good_parts = or_parts _ _ (sym (invalid_after x past event v) ∙ good)

        good_before : was_invalid (trials x past) v ≡ false
        good_before = good_parts.1

        unnamed : tries_kind x past event.1 (kind_of v) ≡ true
            → is_among (signer_of v) (invalid_in x (batch_given event.1)) ≡ false
        unnamed tries = false_from_ne_true _ (λ among. true≢false (sym (and_from _ _ tries among) ∙ good_parts.0))

    -- so no first vote is proven and doesn't
    none_fails : (past : History D K G C) (kind : Kind) → IsPossible x past
        → (is_certified past kind || is_skipped x.mode) ≡ false → (v : Vote G D)
        → IsAt (first_votes x past) v →
        (is_of_kind kind v && (is_eligible x.same_digest (selected_proposal x past) v
        && (((is_trusted x past v || was_eligible (trials x past) v)
        && not (was_invalid (trials x past) v)) && not (is_valid x v)))) ≡ false
    none_fails past kind possible still v found =
        false_from_ne_true _ (λ h.
        let of_kind = and_parts _ _ h in
        let rest = and_parts _ _ (and_parts _ _ of_kind.1).1 in
        let proven = and_parts _ _ rest.0 in
        let same : kind_of v ≡ kind = is_kind-true _ _ of_kind.0 in
        let open_kind : is_certified past (kind_of v) ≡ false = subst (λ (k : Kind). is_certified past k ≡ false) (sym same) (or_parts _ _ still).0 in
        let valid : is_valid x v ≡ true =
        ⊎_elim
        (λ trusted. own_attests past possible v found (and_parts _ _ trusted).0)
        (λ eligible. tried_attests past possible v found open_kind eligible (not-true _ proven.1))
        (or_cases _ _ proven.0) in
        true≢false (sym valid ∙ not-true _ rest.1))

    -- Each proven vote attests.
    pub proven_attest : (past : History D K G C) → IsPossible x past → (kind : Kind)
        → AllPass (is_valid x) (proven_votes x past kind)
    proven_attest past possible kind =
        AllPass-from_list_all (is_valid x) (proven_votes x past kind)
        (all_count (is_valid x) (proven_votes x past kind)
        (⊎_elim
        (λ closed. ap (count (λ v. not (is_valid x v))) (closed_is_empty x past kind closed).1)
        (λ still. count_proven x past kind (λ v. not (is_valid x v)) still
        ∙ none_at _ (first_votes x past) (firsts_apart x past) (none_fails past kind possible still))
        (cases_Bool (is_certified past kind || is_skipped x.mode))))

    -- WHOM A BATCH NAMES
    -- Each signer that a batch names invalid has a first vote, of the kind that it tried, that
    -- doesn't attest.
    named_are_bad : (past : History D K G C) (event : Event D K G C)
        (batch : Option (Batch (Certificate C D))) → IsPossible x (event ∷ past)
        → batch_given event.1 ≡ batch →
        IfSome batch (λ b. AllPass (λ i. is_some_and (ready_kind x past)
        (λ kind. has_bad_vote x past kind i)) b.invalid)
    named_are_bad past event None possible given = tt
    named_are_bad past event (Some batch) possible given =
        let made = batch_made x past event.0 event.1 batch possible.1.1.0 given in
        AllPass-from_list_all (λ i. is_some_and (ready_kind x past) (λ kind. has_bad_vote x past kind i)) batch.invalid
        (all_among (λ i. is_some_and (ready_kind x past) (λ kind. is_some_and (first_vote x past kind i) (λ v. not (is_valid x v)))) batch.invalid
        (λ i among.
        ap (λ o. is_some_and o (λ kind. is_some_and (first_vote x past kind i) (λ v. not (is_valid x v)))) made.ready
        ∙ some_more (is_fresh_bad x past) (λ v. not (is_valid x v)) (λ v bad. (and_parts _ _ (and_parts _ _ bad).1).1) (first_vote x past made.kind i)
        (found_among x past made.kind i made.after.verified made.after.pending batch made.after.attempt made.after.pending_are among).1))

    pub names_bad_signers : (past : History D K G C) (event : Event D K G C)
        → IsPossible x (event ∷ past) → NamesBadSigners x past event
    names_bad_signers past event possible = named_are_bad past event (batch_given event.1) possible refl

module _ {D K G C : Type 0} (x : Config D K G C) where
  -- NO STANDING VOTE IS LOST BUT THOSE FOUND INVALID
  pub usable_are : (past : History D K G C) → IsPossible x past → (kind : Kind) →
      SameElements (usable_votes x past kind)
      (filter (λ v. not (was_invalid (trials x past) v)) (eligible_votes x past kind))
  usable_are past possible kind test =
      count-append test (fresh_votes x past kind) (proven_votes x past kind)
      ∙ (adds (count-filter test (λ v. not (is_trusted x past v || was_eligible (trials x past) v)) (eligible_votes x past kind))
      (count-filter test (λ v. (is_trusted x past v || was_eligible (trials x past) v) && not (was_invalid (trials x past) v)) (eligible_votes x past kind))
      (count_adds _ _ (λ v. not (was_invalid (trials x past) v) && test v) (eligible_votes x past kind)
      (λ v. fresh_or_proven (is_trusted x past v) (was_eligible (trials x past) v) (was_invalid (trials x past) v) (test v) (invalid_tried x past possible v)))
      ∙ sym (count-filter test (λ v. not (was_invalid (trials x past) v)) (eligible_votes x past kind)))
    where
      adds : {f p n m all : ℕ} → f ≡ n → p ≡ m → n + m ≡ all → f + p ≡ all
      adds a b c = omega (arith, a, b, c)

  -- no more of them than are eligible, whatever was answered
  pub usable_within : (past : History D K G C) (kind : Kind) (test : Vote G D → Bool)
      → count test (usable_votes x past kind) ≤ count test (eligible_votes x past kind)
  usable_within past kind test =
      omega (
        arith,
        count-append test (fresh_votes x past kind) (proven_votes x past kind),
        count-filter test (λ v. not (is_trusted x past v || was_eligible (trials x past) v)) (eligible_votes x past kind),
        count-filter test (λ v. (is_trusted x past v || was_eligible (trials x past) v) && not (was_invalid (trials x past) v)) (eligible_votes x past kind),
        counts_within
            (λ v. not (is_trusted x past v || was_eligible (trials x past) v) && test v)
            (λ v. ((is_trusted x past v || was_eligible (trials x past) v) && not (was_invalid (trials x past) v)) && test v)
            test (eligible_votes x past kind)
            (λ v. one_of_two (is_trusted x past v || was_eligible (trials x past) v) (was_invalid (trials x past) v) (test v)),
      )

  -- Of each signer one vote at most is eligible.
  eligible_once : (past : History D K G C) (kind : Kind)
      → EachOnce signer_of (eligible_votes x past kind)
  eligible_once past kind i =
      ⊎_elim
      (λ closed. let none : count (λ v. eqb (signer_of v) i) (eligible_votes x past kind) ≡ 0 = rw closed refl in omega (arith, none))
      (λ still.
      let counted = count_passed x past kind (λ v. eqb (signer_of v) i) still in
      let alike = count_same _ (λ v. is_eligible x.same_digest (selected_proposal x past) v && is_vote_of kind i v) (first_votes x past)
      (λ v. kind_and_signer x (is_of_kind kind v) (is_eligible x.same_digest (selected_proposal x past) v) (eqb (signer_of v) i)) in
      let one = count_at (is_eligible x.same_digest (selected_proposal x past)) (first_votes x past) kind i (firsts_apart x past) in
      one_of (is_some_and (first_vote x past kind i) (is_eligible x.same_digest (selected_proposal x past))) _ (counted ∙ (alike ∙ one)))
      (cases_Bool (is_certified past kind || is_skipped x.mode))
    where
      one_of : (b : Bool) (n : ℕ) → n ≡ cond b 1 0 → n ≤ 1
      one_of true n h = omega (arith, h)
      one_of false n h = omega (arith, h)

  pub usable_once : (past : History D K G C) (kind : Kind)
      → EachOnce signer_of (usable_votes x past kind)
  usable_once past kind =
      once_fewer signer_of (eligible_votes x past kind) (usable_votes x past kind) (usable_within past kind) (eligible_once past kind)

  -- With a proposal selected, the eligible votes of a kind with proposals are for it.
  eligible_for : (past : History D K G C) (kind : Kind) (p : Proposal D) → has_proposals kind ≡ true
      → selected_proposal x past ≡ Some p
      → count (λ v. not (is_for x.same_digest p v)) (eligible_votes x past kind) ≡ 0
  eligible_for past kind p has selected =
      ⊎_elim
      (λ closed. rw closed refl)
      (λ still.
      count_passed x past kind (λ v. not (is_for x.same_digest p v)) still
      ∙ (ap (λ o. count (λ v. is_of_kind kind v && (is_eligible x.same_digest o v && not (is_for x.same_digest p v))) (first_votes x past)) selected
      ∙ (count_same _ (λ _. false) (first_votes x past)
      (λ v. eligible_for_it (is_of_kind kind v) (has_proposals (kind_of v)) (is_for x.same_digest p v)
      (λ e. ap has_proposals (is_kind-true (kind_of v) kind e) ∙ has))
      ∙ count-false (first_votes x past))))
      (cases_Bool (is_certified past kind || is_skipped x.mode))

  pub usable_for : (past : History D K G C) (kind : Kind) (p : Proposal D)
      → has_proposals kind ≡ true → selected_proposal x past ≡ Some p
      → AllPass (is_for x.same_digest p) (usable_votes x past kind)
  usable_for past kind p has selected =
      AllPass-from_list_all (is_for x.same_digest p) (usable_votes x past kind)
      (all_count (is_for x.same_digest p) (usable_votes x past kind)
      (none_more (usable_within past kind (λ v. not (is_for x.same_digest p v))) (eligible_for past kind p has selected)))
    where
      none_more : {n m : ℕ} → n ≤ m → m ≡ 0 → n ≡ 0
      none_more h e = omega (arith, h, e)
