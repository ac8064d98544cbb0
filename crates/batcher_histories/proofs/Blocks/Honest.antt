-- What an honest participant can rely on: its votes are added, it is never named for what it didn't
-- send, and a quorum of such completes.
use Rattle.batcher_histories.proofs.Words.{◌≡◌, ◌≤◌, ◌+◌, ◌==◌, ℕ, zero, suc, Bool, true, false, not, cond, ◌&&◌, ◌||◌, nat_le, List, [], ◌∷◌, ◌++◌, length}
use Rattle.batcher_histories.proofs.Words.{map, filter, get_or, Option, Some, None, refl, ap, sym, ◌∙◌, arith, ⊎_elim, subst, IfSome, list_any, range_with_len}
use Rattle.batcher_histories.proofs.Words.{AllPass, option_map_or, cases_Bool, and_parts, and_from, and_right, or_from, or_parts, or_cases, or_left, or_right}
use Rattle.batcher_histories.proofs.Words.{false_from_ne_true, true≢false, false≢true, not-true, not-false, eqb-true, eq-eqb, lt-ltb, le-leb}
use Rattle.batcher_histories.proofs.Words.{true_from_ne_false, nat_tests, list_any-append, AllPass-from_list_all, Participant, Vote, NotarizeVote, NullifyVote}
use Rattle.batcher_histories.proofs.Words.{FinalizeVote, Kind, Subject, Proposal, Certificate, Batch, Call, NetworkCall, OwnCall, CertificateCall, LeaderCall}
use Rattle.batcher_histories.proofs.Words.{ConstructCall, ForwardCall, MissingCall, Config, participants_in, count, is_some_and, is_kind, kind_of, signer_of}
use Rattle.batcher_histories.proofs.Words.{subject_of, attestation_of, proposal_in, has_proposals, same_proposal, same_subject, excludes, is_of_kind}
use Rattle.batcher_histories.proofs.Words.{is_vote_of, is_eligible, any_more, any_other, any_filter, any_found, at_most_one, count-append, count-false}
use Rattle.batcher_histories.proofs.Words.{count-filter_le, count-map, count_covers, same_subject-true, is_kind-refl, is_kind-true, MayCall, same_vote, Event}
use Rattle.batcher_histories.proofs.Words.{History, batch_given, sent_votes, own_votes, cast_votes, first_votes, first_vote, is_free, contradicts, is_skipped}
use Rattle.batcher_histories.proofs.Words.{selected_proposal, is_certified, is_valid, is_trusted, is_among, is_counted, was_invalid, was_eligible, trials}
use Rattle.batcher_histories.proofs.Words.{ready_kind, fresh_votes, proven_votes, counted_votes, valid_votes, tries_kind, AttemptAfter, has_bad_vote}
use Rattle.batcher_histories.proofs.Words.{IsPossible, network_answer, votes_cast, names_another, contradicts_itself, gave_cause, IsAmong, named_invalid}
use Rattle.batcher_histories.proofs.Words.{IsAddedWithoutCause, times_named, votes_sent, sent_bad_vote, NamesForOwnVotes, voted_well, honest_voters}
use Rattle.batcher_histories.proofs.Words.{CompletesHonestQuorums, LeavesNoHonestQuorum, TakesInHonest, has_valid_quorum}
use Rattle.batcher_histories.proofs.History.Laws.{HasLaws}
use Rattle.batcher_histories.proofs.History.Distinct.{any_count, any_is_found, some_of, found_is_of, first_stays, where_holds}
use Rattle.batcher_histories.proofs.History.Past.{invalid_after, invalid_in}
use Rattle.batcher_histories.proofs.History.Attempts.{kind_in, kind_of_vote, TriesKind, tries_by, is_fresh_bad, invalid_cases, invalid_tried, found_among}
use Rattle.batcher_histories.proofs.Headline.Attesting.{some_more, names_bad_signers, usable_once}
use Rattle.batcher_histories.proofs.Simulation.Network.{added_is}
use Rattle.batcher_histories.proofs.Quorums.Completed.{completes, construct_answered}
use Rattle.batcher_histories.proofs.Certificates.Timing.{none_due}
use Rattle.batcher_histories.proofs.Simulation.Settled.{constructed}
use Rattle.batcher_histories.proofs.Headline.Work.{count_implied}
use Rattle.batcher_histories.proofs.Pairs.Compared.{any_in_filtered}
use Rattle.batcher_histories.proofs.Order.Reordered.{excludes_same, excludes_itself}
use Rattle.batcher_histories.proofs.Blocks.Own.{own_agree}
use Rattle.batcher_histories.proofs.Headline.Promises.{first_is_cast, at_each_vote, at_each_event, at_each_time}

-- LISTS
-- what passes among some is among them
pub some_among :
    {X : Type 0} (p : X → Bool) (vs : List X) → list_any p vs ≡ true
    → (v : X) × (p v ≡ true) × IsAmong v vs
some_among p [] h = absurd (false≢true h)
some_among p (v ∷ vs) h =
    ⊎_elim
    (λ here. (v, here, λ test t. or_left (test v) (list_any test vs) t))
    (λ rest. let w = some_among p vs rest in (w.0, w.1, λ test t. or_right (test v) (list_any test vs) (w.2 test t)))
    (or_cases (p v) (list_any p vs) h)

among_front : {X : Type 0} (v : X) (xs ys : List X) → IsAmong v xs → IsAmong v (xs ++ ys)
among_front v xs ys among test t = list_any-append test xs ys ∙ or_left _ (list_any test ys) (among test t)

among_behind : {X : Type 0} (v : X) (xs ys : List X) → IsAmong v ys → IsAmong v (xs ++ ys)
among_behind v xs ys among test t = list_any-append test xs ys ∙ or_right (list_any test xs) _ (among test t)

from_next : (k a : ℕ) → cond (k == a) 1 0 + cond (nat_le (a + 1) k) 1 0 ≤ cond (nat_le a k) 1 0
from_next k a = grind (arith, nat_tests)

-- a number is in a range once at most,
once_in_range : (k a n : ℕ) → count (λ i. k == i) (range_with_len a n) ≤ cond (nat_le a k) 1 0
once_in_range k a zero = omega arith
once_in_range k a (suc n) = omega (arith, from_next k a, once_in_range k (a + 1) n)

either_of : (a b : Bool) → cond (a || b) 1 0 ≤ cond a 1 0 + cond b 1 0
either_of true b = omega arith
either_of false b = omega arith

-- and elements have no more numbers in it than there are elements
few_numbers :
    {X : Type 0} (number : X → ℕ) (n : ℕ) (vs : List X)
    → count (λ i. list_any (λ v. number v == i) vs) (range_with_len 0 n) ≤ length vs
few_numbers number n [] = omega (arith, count-false (range_with_len 0 n))
few_numbers number n (v ∷ vs) =
    omega (
      arith,
      few_numbers number n vs,
      once_in_range (number v) 0 n,
      at_most_one (nat_le 0 (number v)),
      count_covers (λ i. list_any (λ w. number w == i) (v ∷ vs)) (λ i. number v == i) (λ i. list_any (λ w. number w == i) vs)
          (range_with_len 0 n) (λ i. either_of (number v == i) (list_any (λ w. number w == i) vs)),
    )

module _ {D K G C : Type 0} (x : Config D K G C) where
  -- WHOSE VOTES ARE ADDED
  abbrev is_same : Vote G D → Vote G D → Bool
  is_same a b = same_vote x.same_digest x.same_signature a b

  same_unless : (e s : Bool) → e ≡ true → (s || (e && not s)) ≡ true
  same_unless true true h = refl
  same_unless true false h = refl
  same_unless false s h = absurd (false≢true h)

  -- A vote that another one excludes is the same as one, if it contradicts none.
  excluded_is_same :
      (vote : Vote G D) (votes : List (Vote G D)) → list_any (λ v. excludes v vote) votes ≡ true
      → list_any (contradicts x vote) votes ≡ false → list_any (is_same vote) votes ≡ true
  excluded_is_same vote votes excluded none =
      any_other (is_same vote) (contradicts x vote) votes
      (any_more (λ v. excludes v vote) (λ v. is_same vote v || contradicts x vote v)
      (λ v h. same_unless (excludes vote v) (is_same vote v) (excludes_same vote v ∙ h)) votes excluded)
      none

  -- Whoever doesn't contradict itself doesn't with its newest vote.
  contradicts_none :
      (vote : Vote G D) (votes : List (Vote G D))
      → contradicts_itself x (vote ∷ votes) (signer_of vote) ≡ false
      → list_any (contradicts x vote) votes ≡ false
  contradicts_none vote votes alone =
      (or_parts (contradicts x vote vote) _
      (sym (ap (λ b. b && list_any (contradicts x vote) (vote ∷ votes)) (eq-eqb (signer_of vote) (signer_of vote) refl))
      ∙ (or_parts _ _ alone).0)).1

  added_or_same :
      (past : History D K G C) (sender : K) (vote : Vote G D)
      → IsAddedWithoutCause x past sender vote (network_answer x past sender vote)
  added_or_same past sender vote named without =
      ⊎_elim
      (λ free. or_left _ _ (added_is x past sender vote ∙ and_from _ _ named free))
      (λ excluded.
      or_right _ _
      (excluded_is_same vote (votes_cast x past)
      (first_is_cast x (λ v. excludes v vote) past
      (not-false (list_any (λ v. excludes v vote) (first_votes x past)) excluded))
      (contradicts_none vote (votes_cast x past)
      (sym (ap (λ b. contradicts_itself x ((cond b (vote ∷ []) [] ++ []) ++ votes_cast x past) (signer_of vote)) named)
      ∙ (or_parts _ _ without).1))))
      (cases_Bool (is_free (first_votes x past) vote))

  -- WHOM BATCHES NAME
  abbrev is_bad_of : Kind → ℕ → Vote G D → Bool
  is_bad_of kind i v = is_vote_of kind i v && not (is_valid x v)

  own_votes_attest :
      (q : Vote G D → Bool) (call : Call K G C D) → MayCall x.meaning x.number call
      → list_any (λ v. q v && not (is_valid x v)) (own_votes call) ≡ false
  own_votes_attest q (OwnCall vote) may = or_from _ _ (and_right (q vote) _ (ap not may.1)) refl
  own_votes_attest q (NetworkCall sender vote) may = refl
  own_votes_attest q (CertificateCall c) may = refl
  own_votes_attest q (LeaderCall i) may = refl
  own_votes_attest q ConstructCall may = refl
  own_votes_attest q (ForwardCall me) may = refl
  own_votes_attest q (MissingCall p) may = refl

  -- A first vote that doesn't attest was sent.
  bad_was_sent :
      (past : History D K G C) → IsPossible x past → (kind : Kind) (i : ℕ)
      → list_any (is_bad_of kind i) (first_votes x past) ≡ true → sent_bad_vote x past kind i ≡ true
  bad_was_sent [] possible kind i h = h
  bad_was_sent (event ∷ past) possible kind i h =
      list_any-append bad (sent_votes x event.0) (votes_sent x past)
      ∙ ⊎_elim
      (λ now.
      or_left _ (list_any bad (votes_sent x past))
      (⊎_elim
      (λ sent. sent)
      (λ own. absurd (true≢false (sym own ∙ own_votes_attest (is_vote_of kind i) event.0 possible.0)))
      (or_cases _ _
      (sym (list_any-append bad (sent_votes x event.0) (own_votes event.0))
      ∙ any_filter bad (is_free (first_votes x past)) (cast_votes x event.0) now))))
      (λ before. or_right (list_any bad (sent_votes x event.0)) _ (bad_was_sent past possible.1.1.1 kind i before))
      (or_cases _ _
      (sym (list_any-append bad (filter (is_free (first_votes x past)) (cast_votes x event.0)) (first_votes x past)) ∙ h))
    where
      bad : Vote G D → Bool
      bad v = is_bad_of kind i v

  bad_vote_sent :
      (past : History D K G C) → IsPossible x past → (i : Participant) (kind : Kind)
      → has_bad_vote x past kind i ≡ true → sent_bad_vote x past kind i.0 ≡ true
  bad_vote_sent past possible i kind h =
      let v = where_holds (λ v. not (is_valid x v)) (first_vote x past kind i.0) h in
      bad_was_sent past possible kind i.0
      (any_found (is_vote_of kind i.0) (is_bad_of kind i.0) (first_votes x past) v.0 v.1
      (and_from _ _ (found_is_of (first_votes x past) kind i.0 v.0 v.1) v.2))

  -- So whoever a batch names sent a vote that doesn't attest.
  names_for_own :
      HasLaws x → (past : History D K G C) (event : Event D K G C) → IsPossible x (event ∷ past)
      → NamesForOwnVotes x past event
  names_for_own laws past event possible = by_batch (batch_given event.1) (names_bad_signers x laws past event possible)
    where
      by_batch :
          (given : Option (Batch (Certificate C D)))
          → IfSome given (λ batch.
          AllPass (λ i. is_some_and (ready_kind x past) (λ kind. has_bad_vote x past kind i))
          batch.invalid)
          → AllPass (λ i. is_some_and (ready_kind x past) (λ kind. sent_bad_vote x past kind i.0))
          (option_map_or (λ batch. batch.invalid) given [])
      by_batch None h = AllPass-from_list_all _ [] refl
      by_batch (Some batch) h =
          λ k d below. some_more _ _ (bad_vote_sent past possible.1.1.1 (get_or batch.invalid k d)) (ready_kind x past) (h k d below)

  -- HOW OFTEN BATCHES NAME A SIGNER
  -- whether the first vote of the kind and signer was found invalid
  abbrev was_named : History D K G C → Kind → ℕ → Bool
  was_named past kind i = is_some_and (first_vote x past kind i) (was_invalid (trials x past))

  stays_named :
      (past : History D K G C) (event : Event D K G C) (kind : Kind) (i : ℕ)
      → was_named past kind i ≡ true → was_named (event ∷ past) kind i ≡ true
  stays_named past event kind i h =
      let v = where_holds (was_invalid (trials x past)) (first_vote x past kind i) h in
      ap (λ o. is_some_and o (was_invalid (trials x (event ∷ past)))) (first_stays x past event kind i v.0 v.1)
      ∙ (invalid_after x past event v.0 ∙ or_right _ (was_invalid (trials x past) v.0) v.2)

  -- An attempt names each signer once at most,
  named_few :
      (past : History D K G C) → IsPossible x past → (kind : Kind) (i : ℕ)
      → (batch : Batch (Certificate C D)) → AttemptAfter x past kind batch
      → count (λ j. j.0 == i) batch.invalid ≤ 1
  named_few past possible kind i batch after =
      ⊎_elim
      (λ none. omega (arith, ap (count (λ (j : Participant). j.0 == i)) none))
      (λ bad.
      omega (
        arith,
        ap (count (λ (j : Participant). j.0 == i)) bad,
        count-map (λ (j : Participant). j.0 == i) (λ (v : Vote G D). (attestation_of v).signer) (filter (λ v. not (is_valid x v)) after.pending),
        count-filter_le (λ v. signer_of v == i) (λ v. not (is_valid x v)) after.pending,
        after.pending_are (λ v. signer_of v == i),
        count-append (λ v. signer_of v == i) (fresh_votes x past kind) (proven_votes x past kind),
        usable_once x past kind i,
      ))
      (invalid_cases x after.verified after.pending batch after.attempt)

  among_named :
      (i : ℕ) (signers : List Participant) → 1 ≤ count (λ j. j.0 == i) signers
      → is_among i (map (λ j. j.0) signers) ≡ true
  among_named i signers some =
      any_count (λ j. j == i) (map (λ j. j.0) signers)
      ∙ lt-ltb 0 (count (λ j. j == i) (map (λ (j : Participant). j.0) signers))
      (omega (arith, some, count-map (λ j. j == i) (λ (j : Participant). j.0) signers))

  once :
      (n : ℕ) (was is : Bool) → n ≤ 1 → (was ≡ true → is ≡ true)
      → (1 ≤ n → (was ≡ false) × (is ≡ true)) → n + cond was 1 0 ≤ cond is 1 0
  once zero true is few stays new = rw (stays refl) (omega arith)
  once zero false is few stays new = omega arith
  once (suc n) was is few stays new = let both = new (omega arith) in rw (both.0, both.1) (omega (arith, few))

  module _
      (past : History D K G C) (event : Event D K G C) (possible : IsPossible x (event ∷ past))
      (kind : Kind) (i : ℕ) where
    abbrev then : History D K G C
    then = event ∷ past

    -- and whom it names wasn't named before, and is then.
    named_new :
        (t : TriesKind x past event.1 kind) → tries_kind x past event.1 kind ≡ true
        → is_among i (map (λ j. j.0) t.batch.invalid) ≡ true
        → (was_named past kind i ≡ false) × (was_named then kind i ≡ true)
    named_new t tries among =
        let bad = (found_among x past kind i t.after.verified t.after.pending t.batch t.after.attempt t.after.pending_are among).1 in
        let v = where_holds (is_fresh_bad x past) (first_vote x past kind i) bad in
        let is = and_parts (is_kind (kind_of v.0) kind) (signer_of v.0 == i) (found_is_of (first_votes x past) kind i v.0 v.1) in
        let new = stood_not v.0 v.2 in
        let tries_its : tries_kind x past event.1 (kind_of v.0) ≡ true =
        ap (tries_kind x past event.1) (is_kind-true (kind_of v.0) kind is.0) ∙ tries in
        let among_its : is_among (signer_of v.0) (invalid_in x (batch_given event.1)) ≡ true =
        ap (λ o. is_among (signer_of v.0) (invalid_in x o)) t.given
        ∙ (ap (λ j. is_among j (map (λ l. l.0) t.batch.invalid)) (eqb-true (signer_of v.0) i is.1) ∙ among) in (
          ap (λ o. is_some_and o (was_invalid (trials x past))) v.1
              ∙ false_from_ne_true _ (λ was. true≢false (sym (invalid_tried x past possible.1.1.1 v.0 was) ∙ new)),
          ap (λ o. is_some_and o (was_invalid (trials x then))) (first_stays x past event kind i v.0 v.1)
              ∙ (invalid_after x past event v.0 ∙ or_left _ (was_invalid (trials x past) v.0) (and_from _ _ tries_its among_its)),
        )
      where
        stood_not :
            (v : Vote G D) → is_fresh_bad x past v ≡ true → was_eligible (trials x past) v ≡ false
        stood_not v h =
            let waiting = and_parts (is_eligible x.same_digest (selected_proposal x past) v) _ h in
            let fresh = and_parts (not (is_trusted x past v || was_eligible (trials x past) v)) (not (is_valid x v)) waiting.1 in
            (or_parts (is_trusted x past v) (was_eligible (trials x past) v) (not-true _ fresh.0)).1

    named_adds :
        (tries : Bool) → tries_kind x past event.1 kind ≡ tries
        → cond tries (count (λ j. j.0 == i) (named_invalid event.1)) 0
        + cond (was_named past kind i) 1 0
        ≤ cond (was_named then kind i) 1 0
    named_adds false e =
        once 0 (was_named past kind i) (was_named then kind i) (omega arith) (stays_named past event kind i)
        (λ some. absurd (omega (arith, some)))
    named_adds true e =
        let t = tries_by x past event.0 event.1 kind possible.1.1.0 e in
        let invalid : named_invalid event.1 ≡ t.batch.invalid = ap (λ o. option_map_or (λ batch. batch.invalid) o []) t.given in
        subst (λ (signers : List Participant). count (λ j. j.0 == i) signers + cond (was_named past kind i) 1 0 ≤ cond (was_named then kind i) 1 0)
        (sym invalid)
        (once (count (λ j. j.0 == i) t.batch.invalid) (was_named past kind i) (was_named then kind i)
        (named_few past possible.1.1.1 kind i t.batch t.after) (stays_named past event kind i)
        (λ some. named_new t e (among_named i t.batch.invalid some)))

  -- So a signer is named once at most for each kind.
  named_if_found :
      (past : History D K G C) → IsPossible x past → (kind : Kind) (i : ℕ)
      → times_named x past kind i ≤ cond (was_named past kind i) 1 0
  named_if_found [] possible kind i = omega arith
  named_if_found (event ∷ past) possible kind i =
      omega (arith, named_adds past event possible kind i (tries_kind x past event.1 kind) refl, named_if_found past possible.1.1.1 kind i)

  named_at_most_once :
      (past : History D K G C) → IsPossible x past → (kind : Kind) (i : ℕ)
      → times_named x past kind i ≤ 1
  named_at_most_once past possible kind i =
      omega (arith, named_if_found past possible kind i, at_most_one (was_named past kind i))

  -- A QUORUM OF THE HONEST
  -- A vote that was cast is a first vote, or a first vote excludes it.
  cast_is_met :
      (past : History D K G C) (p : Vote G D → Bool) → list_any p (votes_cast x past) ≡ true
      → (v : Vote G D) × (p v ≡ true) × IsAmong v (votes_cast x past)
      × (list_any (λ u. excludes u v) (first_votes x past) ≡ true)
  cast_is_met [] p h = absurd (false≢true h)
  cast_is_met (event ∷ past) p h =
      ⊎_elim
      (λ now.
      let v = some_among p (cast_votes x event.0) now in (
        v.0,
        v.1,
        among_front v.0 (cast_votes x event.0) (votes_cast x past) v.2,
        list_any-append (λ u. excludes u v.0) new (first_votes x past)
            ∙ ⊎_elim
            (λ free.
            or_left _ _
            (any_in_filtered (λ u. excludes u v.0) (is_free (first_votes x past)) (cast_votes x event.0)
            (v.2 (λ u. is_free (first_votes x past) u && excludes u v.0) (and_from _ _ free (excludes_itself v.0)))))
            (λ excluded. or_right _ _ (not-false (list_any (λ u. excludes u v.0) (first_votes x past)) excluded))
            (cases_Bool (is_free (first_votes x past) v.0)),
      ))
      (λ before.
      let v = cast_is_met past p before in (
        v.0,
        v.1,
        among_behind v.0 (cast_votes x event.0) (votes_cast x past) v.2,
        list_any-append (λ u. excludes u v.0) new (first_votes x past) ∙ or_right _ _ v.3,
      ))
      (or_cases _ _ (sym (list_any-append p (cast_votes x event.0) (votes_cast x past)) ∙ h))
    where
      new : List (Vote G D)
      new = filter (is_free (first_votes x past)) (cast_votes x event.0)

  -- whether a vote counts is determined by its subject
  counted_by :
      (selected : Option (Proposal D)) (v w : Vote G D) → subject_of v ≡ subject_of w
      → is_counted x selected v ≡ is_counted x selected w
  counted_by selected v w same = subject_counts v ∙ (ap counts same ∙ sym (subject_counts w))
    where
      counts : Subject D → Bool
      counts s = not (has_proposals (kind_in s)) || is_some_and selected (λ p. is_some_and (proposal_in s) (same_proposal x.same_digest p))

      subject_counts : (u : Vote G D) → is_counted x selected u ≡ counts (subject_of u)
      subject_counts (NotarizeVote u) = refl
      subject_counts (NullifyVote u) = refl
      subject_counts (FinalizeVote u) = refl

  module _
      (laws : HasLaws x) (past : History D K G C) (kind : Kind) (i : ℕ)
      (alone : contradicts_itself x (votes_cast x past) i ≡ false) where
    -- Whoever doesn't contradict itself casts no two votes of which one excludes the other, but for
    -- one subject.
    one_subject :
        (u v : Vote G D) → IsAmong u (votes_cast x past) → IsAmong v (votes_cast x past)
        → signer_of u ≡ i → excludes u v ≡ true → subject_of u ≡ subject_of v
    one_subject u v u_among v_among signs excluded =
        same_subject-true x.same_digest laws.digests_equal (subject_of u) (subject_of v)
        (and_parts (same_subject x.same_digest (subject_of u) (subject_of v)) _ (true_from_ne_false _ differs)).0
      where
        differs : is_same u v ≡ false → ⊥
        differs h =
            true≢false
            (sym (u_among (λ w. (signer_of w == i) && list_any (contradicts x w) (votes_cast x past))
            (and_from _ _ (eq-eqb (signer_of u) i signs) (v_among (contradicts x u) (and_from _ _ excluded (ap not h)))))
            ∙ alone)

    first_among : (v : Vote G D) → IsAmong v (first_votes x past) → IsAmong v (votes_cast x past)
    first_among v among test t = first_is_cast x test past (among test t)

    -- So its first vote of a kind has the subject of each other one.
    first_alike :
        (v : Vote G D) → is_vote_of kind i v ≡ true → IsAmong v (votes_cast x past)
        → list_any (λ u. excludes u v) (first_votes x past) ≡ true
        → (w : Vote G D) × (first_vote x past kind i ≡ Some w) × (subject_of w ≡ subject_of v)
    first_alike v of_v among met = (
      w.0,
      w.1,
      one_subject w.0 v (first_among w.0 (λ test. any_found (is_vote_of kind i) test (first_votes x past) w.0 w.1)) among
          (eqb-true (signer_of w.0) i of_w.1) excluded,
    )
      where
        is : (kind_of v ≡ kind) × (signer_of v ≡ i)
        is =
            let parts = and_parts (is_kind (kind_of v) kind) (signer_of v == i) of_v in
            (is_kind-true (kind_of v) kind parts.0, eqb-true (signer_of v) i parts.1)

        some_first : list_any (is_vote_of kind i) (first_votes x past) ≡ true
        some_first =
            let u = some_among (λ u. excludes u v) (first_votes x past) met in
            let signs : signer_of u.0 ≡ i = eqb-true (signer_of u.0) (signer_of v) (and_parts (signer_of u.0 == signer_of v) _ u.1).0 ∙ is.1 in
            let alike : subject_of u.0 ≡ subject_of v = one_subject u.0 v (first_among u.0 u.2) among signs u.1 in
            let kinds : kind_of u.0 ≡ kind = sym (kind_of_vote x u.0) ∙ (ap kind_in alike ∙ (kind_of_vote x v ∙ is.0)) in
            u.2 (is_vote_of kind i) (and_from _ _ (ap (λ k. is_kind k kind) kinds ∙ is_kind-refl kind) (eq-eqb (signer_of u.0) i signs))

        w : (w : Vote G D) × (first_vote x past kind i ≡ Some w)
        w = some_of (first_vote x past kind i) (sym (any_is_found (first_votes x past) kind i) ∙ some_first)

        of_w : (is_kind (kind_of w.0) kind ≡ true) × ((signer_of w.0 == i) ≡ true)
        of_w = and_parts (is_kind (kind_of w.0) kind) (signer_of w.0 == i) (found_is_of (first_votes x past) kind i w.0 w.1)

        excluded : excludes w.0 v ≡ true
        excluded =
            and_from _ _ (ap (λ j. signer_of w.0 == j) is.1 ∙ of_w.1)
            (or_left (is_kind (kind_of w.0) (kind_of v)) _ (ap (is_kind (kind_of w.0)) is.0 ∙ of_w.0))

    abbrev is_good : Vote G D → Bool
    is_good v = is_counted x (selected_proposal x past) v && is_valid x v

    -- If it voted well, that one counts and attests.
    first_is_good :
        voted_well x past kind i ≡ true → is_some_and (first_vote x past kind i) is_good ≡ true
    first_is_good well =
        ap (λ o. is_some_and o is_good) first.1
        ∙ and_from (is_counted x (selected_proposal x past) first.0) (is_valid x first.0)
        (counted_by (selected_proposal x past) first.0 cast.0 first.2 ∙ is.1)
        (true_from_ne_false (is_valid x first.0) (bad first.0 first.1 parts.1))
      where
        counts : Vote G D → Bool
        counts v = is_vote_of kind i v && is_counted x (selected_proposal x past) v

        parts :
            (list_any counts (votes_cast x past) ≡ true)
            × (not (list_any (is_bad_of kind i) (votes_cast x past)) ≡ true)
        parts = and_parts (list_any counts (votes_cast x past)) (not (list_any (is_bad_of kind i) (votes_cast x past))) well

        cast :
            (v : Vote G D) × (counts v ≡ true) × IsAmong v (votes_cast x past)
            × (list_any (λ u. excludes u v) (first_votes x past) ≡ true)
        cast = cast_is_met past counts parts.0

        is :
            (is_vote_of kind i cast.0 ≡ true)
            × (is_counted x (selected_proposal x past) cast.0 ≡ true)
        is = and_parts (is_vote_of kind i cast.0) (is_counted x (selected_proposal x past) cast.0) cast.1

        first :
            (w : Vote G D) × (first_vote x past kind i ≡ Some w)
            × (subject_of w ≡ subject_of cast.0)
        first = first_alike cast.0 is.0 cast.2 cast.3

        bad :
            (w : Vote G D) → first_vote x past kind i ≡ Some w
            → not (list_any (is_bad_of kind i) (votes_cast x past)) ≡ true
            → is_valid x w ≡ false → ⊥
        bad w found none h =
            true≢false
            (sym (first_is_cast x (is_bad_of kind i) past
            (any_found (is_vote_of kind i) (is_bad_of kind i) (first_votes x past) w found
            (and_from _ _ (found_is_of (first_votes x past) kind i w found) (ap not h))))
            ∙ not-true (list_any (is_bad_of kind i) (votes_cast x past)) none)

  -- So whoever gave no cause and voted well has one of the valid votes.
  honest_is_valid :
      HasLaws x → (past : History D K G C) (kind : Kind) (i : ℕ) → is_skipped x.mode ≡ false
      → (not (gave_cause x past i) && voted_well x past kind i) ≡ true
      → list_any (λ v. signer_of v == i) (valid_votes x past kind) ≡ true
  honest_is_valid laws past kind i runs h =
      any_in_filtered signs (is_valid x) (counted_votes x past kind)
      (ap (λ b. list_any (λ v. is_valid x v && signs v) (cond b [] (filter counts (first_votes x past)))) runs
      ∙ any_in_filtered (λ v. is_valid x v && signs v) counts (first_votes x past)
      (any_found (is_vote_of kind i) (λ v. counts v && (is_valid x v && signs v)) (first_votes x past) w.0 w.1
      (and_from _ _ (and_from _ _ of_w.0 good.0) (and_from _ _ good.1 of_w.1))))
    where
      signs : Vote G D → Bool
      signs v = signer_of v == i

      counts : Vote G D → Bool
      counts v = is_of_kind kind v && is_counted x (selected_proposal x past) v

      parts : (not (gave_cause x past i) ≡ true) × (voted_well x past kind i ≡ true)
      parts = and_parts (not (gave_cause x past i)) (voted_well x past kind i) h

      alone : contradicts_itself x (votes_cast x past) i ≡ false
      alone =
          (or_parts (list_any (λ event. names_another x i event.0) past) (contradicts_itself x (votes_cast x past) i)
          (not-true (gave_cause x past i) parts.0)).1

      w :
          (w : Vote G D) × (first_vote x past kind i ≡ Some w)
          × (is_good laws past kind i alone w ≡ true)
      w = where_holds (is_good laws past kind i alone) (first_vote x past kind i) (first_is_good laws past kind i alone parts.1)

      of_w : (is_of_kind kind w.0 ≡ true) × (signs w.0 ≡ true)
      of_w = and_parts (is_of_kind kind w.0) (signs w.0) (found_is_of (first_votes x past) kind i w.0 w.1)

      good : (is_counted x (selected_proposal x past) w.0 ≡ true) × (is_valid x w.0 ≡ true)
      good = and_parts (is_counted x (selected_proposal x past) w.0) (is_valid x w.0) w.2

  few_honest :
      HasLaws x → (past : History D K G C) (kind : Kind) → is_skipped x.mode ≡ false
      → honest_voters x past kind ≤ length (valid_votes x past kind)
  few_honest laws past kind runs =
      omega (
        arith,
        few_numbers signer_of (participants_in x) (valid_votes x past kind),
        count_implied (λ i. not (gave_cause x past i) && voted_well x past kind i) (λ i. list_any (λ v. signer_of v == i) (valid_votes x past kind))
            (range_with_len 0 (participants_in x)) (λ i. honest_is_valid laws past kind i runs),
      )

  completes_honest :
      HasLaws x → (past : History D K G C) → IsPossible x past → CompletesHonestQuorums x past
  completes_honest laws [] possible runs ends kind reached = absurd (false≢true ends)
  completes_honest laws (event ∷ past) possible runs ends kind reached =
      completes x laws past event possible ends kind (omega (arith, reached, few_honest laws (event ∷ past) kind runs))

  -- and where a construction gives no batch
  certified_if : (c q : Bool) → (not c && q) ≡ false → q ≡ true → c ≡ true
  certified_if true q none due = refl
  certified_if false q none due = absurd (true≢false (sym due ∙ none))

  leaves_honest :
      HasLaws x → (past : History D K G C) (given : Option (Batch (Certificate C D)))
      → IsPossible x (constructed x past given ∷ past)
      → LeavesNoHonestQuorum x past (constructed x past given)
  leaves_honest laws past None possible = λ runs kind reached.
      certified_if (is_certified past kind) (has_valid_quorum x past kind)
      (none_due x laws past possible.1.1.1 possible.1.1.0 kind)
      (le-leb _ _ (omega (arith, reached, few_honest laws past kind runs)))
  leaves_honest laws past (Some batch) possible = tt

  leaves_no_honest :
      HasLaws x → (past : History D K G C) (event : Event D K G C) → IsPossible x (event ∷ past)
      → LeavesNoHonestQuorum x past event
  leaves_no_honest laws past (ConstructCall, answer) possible =
      construct_answered x past answer possible.1.1.0
      (λ a. IsPossible x ((ConstructCall, a) ∷ past) → LeavesNoHonestQuorum x past (ConstructCall, a))
      (λ given may. leaves_honest laws past given) possible
  leaves_no_honest laws past event possible = tt

  -- ALL OF IT
  -- An honest participant can rely on it.
  pub takes_in_honest :
      HasLaws x → (past : History D K G C) → IsPossible x past → TakesInHonest x past
  takes_in_honest laws past possible =
      record {
        votes_are_added = at_each_vote x (IsAddedWithoutCause x) added_or_same past possible;
        own_added_agree = own_agree x past possible;
        named_once = named_at_most_once past possible;
        named_for_its_own_vote = at_each_event x (NamesForOwnVotes x) (names_for_own laws) past possible;
        honest_quorums_complete = at_each_time x (CompletesHonestQuorums x) (completes_honest laws) past possible;
        no_honest_quorum_left = at_each_event x (LeavesNoHonestQuorum x) (leaves_no_honest laws) past possible;
      }
