-- Two rounds that take the same calls, one that retains votes beside one that releases them: whom
-- each of them blocks.
use Rattle.batcher_histories.proofs.Words.{◌≡◌, Bool, true, false, not, cond, ◌&&◌, ◌||◌, [], ◌∷◌, ◌++◌, Option, Some, None, refl, ap, sym, ◌∙◌, ⊎_elim, eqb}
use Rattle.batcher_histories.proofs.Words.{subst, find, is_some, list_any, cases_Bool, and_parts, and_from, and_right, or_left, or_right, or_parts, true≢false}
use Rattle.batcher_histories.proofs.Words.{false≢true, eqb-true, false_from_ne_true, same_Some, Participant, Proposal, Subject, NotarizeSubject, NullifySubject}
use Rattle.batcher_histories.proofs.Words.{FinalizeSubject, Vote, NotarizeVote, NullifyVote, FinalizeVote, Admission, Retaining, Releasing, NetworkCall, Answer}
use Rattle.batcher_histories.proofs.Words.{NetworkAnswer, Config, sender_in, is_some_and, kind_of, signer_of, subject_of, proposal_in, is_vote_of}
use Rattle.batcher_histories.proofs.Words.{has_proposals, are_opposite, opposes, is_for, same_proposal, same_subject, same_proposal-refl, same_proposal-true}
use Rattle.batcher_histories.proofs.Words.{is_kind-true, same_selected, same_vote, block_for, mismatch_reason, Event, History, cast_votes, first_votes}
use Rattle.batcher_histories.proofs.Words.{first_like, opposite_vote, fixed_proposal, is_released, compared_votes, conflicts, carry_different, MayAnswer}
use Rattle.batcher_histories.proofs.Words.{IsPossible, votes_cast, in_mode, blocks, blocks_participant, was_blocked, tells_nothing, AtEachPlace, SelectsAlike}
use Rattle.batcher_histories.proofs.Words.{IsBlockedByBoth, IsBlockedByOne}
use Rattle.batcher_histories.proofs.Pairs.Alike.{AreAlike, along, certified_alike, firsts_alike, selection_alike}
use Rattle.batcher_histories.proofs.History.Distinct.{found_is_of, is_itself}
use Rattle.batcher_histories.proofs.Headline.Conflicts.{conflict_with_compared}
use Rattle.batcher_histories.proofs.Pairs.Compared.{released_is_fixed, fixed_is_selected, matches, matching_conflicts, other_conflicts, matching_blocked}
use Rattle.batcher_histories.proofs.History.Laws.{HasLaws}
use Rattle.batcher_histories.proofs.Headline.Promises.{beside_blocks, compared_is_cast}
use Rattle.batcher_histories.proofs.Blocks.Refused.{opposed_blocks, differing_blocked}
use Rattle.batcher_histories.proofs.Correctness.Kept.{found_passes}
use Rattle.batcher_histories.proofs.History.ByFirst.{admission_against, admission_by_first, admission_sent_by, network_is}

-- WHAT VOTES CARRY
without_proposal : {G D : Type 0} (v : Vote G D) → has_proposals (kind_of v) ≡ false
    → proposal_in (subject_of v) ≡ None
without_proposal (NotarizeVote v) h = absurd (true≢false h)
without_proposal (NullifyVote v) h = refl
without_proposal (FinalizeVote v) h = absurd (true≢false h)

module _ {G D : Type 0} (same : D → D → Bool) (equal : G → G → Bool)
    (identical : (a b : D) → same a b ≡ true → a ≡ b) (reflexive : (a : D) → same a a ≡ true) where
  different_has : (v vote : Vote G D) → carry_different same v vote ≡ true
      → has_proposals (kind_of v) ≡ true
  different_has (NotarizeVote v) vote h = refl
  different_has (NullifyVote v) vote h = absurd (false≢true h)
  different_has (FinalizeVote v) vote h = refl

  proposal_same : (s t : Subject D) → same_subject same s t ≡ true → proposal_in s ≡ proposal_in t
  proposal_same (NotarizeSubject p) (NotarizeSubject q) h = ap Some (same_proposal-true same identical p q h)
  proposal_same (NullifySubject r) (NullifySubject s) h = refl
  proposal_same (FinalizeSubject p) (FinalizeSubject q) h = ap Some (same_proposal-true same identical p q h)
  proposal_same s t h = absurd (false≢true h)

  none_different : (o : Option (Proposal D))
      → is_some_and o (λ p. is_some_and o (λ q. not (same_proposal same p q))) ≡ false
  none_different None = refl
  none_different (Some p) = ap not (same_proposal-refl same reflexive p)

  carried_alike : (v vote : Vote G D) → proposal_in (subject_of v) ≡ proposal_in (subject_of vote)
      → carry_different same v vote ≡ false
  carried_alike v vote e =
      ap (λ o. is_some_and o (λ p. is_some_and (proposal_in (subject_of vote)) (λ q. not (same_proposal same p q)))) e
      ∙ none_different (proposal_in (subject_of vote))

  same_carries : (a b : Vote G D) → same_vote same equal a b ≡ true → proposal_in (subject_of a)
      ≡ proposal_in (subject_of b)
  same_carries a b h = proposal_same (subject_of a) (subject_of b) (and_parts _ _ h).0

  carries_what_it_is_for : (p : Proposal D) (v : Vote G D) → is_for same p v ≡ true
      → proposal_in (subject_of v) ≡ Some p
  carries_what_it_is_for p (NotarizeVote v) h = ap Some (sym (same_proposal-true same identical p v.proposal h))
  carries_what_it_is_for p (NullifyVote v) h = absurd (false≢true h)
  carries_what_it_is_for p (FinalizeVote v) h = ap Some (sym (same_proposal-true same identical p v.proposal h))

  -- votes for one proposal carry the same one
  selected_alike_of : (p : Proposal D) (a b : Vote G D) → is_for same p a ≡ true → is_for same p b
      ≡ true → same_selected same (proposal_in (subject_of a)) (proposal_in (subject_of b)) ≡ true
  selected_alike_of p a b for_a for_b =
      ap (λ o. same_selected same o (proposal_in (subject_of b))) (carries_what_it_is_for p a for_a)
      ∙ (ap (same_selected same (Some p)) (carries_what_it_is_for p b for_b) ∙ same_proposal-refl same reflexive p)

module _ {D K G C : Type 0} (x : Config D K G C) where
  -- AT EACH PLACE OF TWO HISTORIES
  pub selects_alike : (retained released : History D K G C) → AreAlike retained released
      → AtEachPlace (SelectsAlike x) retained released
  selects_alike [] [] alike = tt
  selects_alike [] (b ∷ released) alike = absurd alike
  selects_alike (a ∷ retained) [] alike = absurd alike
  selects_alike (a ∷ retained) (b ∷ released) alike =
      ((selection_alike x (a ∷ retained) (b ∷ released) alike, certified_alike (a ∷ retained) (b ∷ released) alike), selects_alike retained released alike.1.1)

  pub at_each_place : (holds : Event D K G C → History D K G C → Event D K G C → History D K G C
      → Type 0)
      → ((a : Event D K G C) (retained : History D K G C) (b : Event D K G C)
      (released : History D K G C) → AreAlike (a ∷ retained) (b ∷ released)
      → IsPossible (in_mode x Retaining) (a ∷ retained)
      → IsPossible (in_mode x Releasing) (b ∷ released) → holds a retained b released)
      → (retained released : History D K G C) → AreAlike retained released
      → IsPossible (in_mode x Retaining) retained → IsPossible (in_mode x Releasing) released
      → AtEachPlace holds retained released
  at_each_place holds each [] [] alike possible also = tt
  at_each_place holds each [] (b ∷ released) alike possible also = absurd alike
  at_each_place holds each (a ∷ retained) [] alike possible also = absurd alike
  at_each_place holds each (a ∷ retained) (b ∷ released) alike possible also =
      (each a retained b released alike possible also, at_each_place holds each retained released alike.1.1 possible.1.1.1 also.1.1.1)

  -- whether a network vote's answer blocks
  blocks_is : (past : History D K G C) (sender : K) (vote : Vote G D) (answer : Answer G C D)
      → MayAnswer x past (NetworkCall sender vote) answer → blocks answer
      ≡ is_some (admission_sent_by x past (sender_in x sender) vote).block
  blocks_is past sender vote (NetworkAnswer admission) may = ap (λ (a : Admission G D). is_some a.block) (may ∙ network_is x past vote sender)
  blocks_is past sender vote answer may = absurd may

module _ {D K G C : Type 0} (x : Config D K G C) (laws : HasLaws x) where
  laws_in : HasLaws (in_mode x Releasing)
  laws_in = record { scheme = laws.scheme; some_participant = laws.some_participant; digests_equal = laws.digests_equal; digests_same = laws.digests_same }

  cast_alike : (retained released : History D K G C) → AreAlike retained released
      → votes_cast (in_mode x Retaining) retained ≡ votes_cast (in_mode x Releasing) released
  cast_alike =
      along (votes_cast (in_mode x Retaining)) (votes_cast (in_mode x Releasing)) refl
      (λ a b retained released alike same.
      ap (λ vs. cast_votes x a.0 ++ vs) same ∙ ap (λ call. cast_votes x call ++ votes_cast (in_mode x Releasing) released) alike.0)

  -- after such histories a vote
  module _ (retained released : History D K G C) (alike : AreAlike retained released)
      (possible : IsPossible (in_mode x Retaining) retained)
      (also : IsPossible (in_mode x Releasing) released) (vote : Vote G D) where
    like_alike : first_like (in_mode x Retaining) retained vote
        ≡ first_like (in_mode x Releasing) released vote
    like_alike = ap (find (is_vote_of (kind_of vote) (signer_of vote))) (firsts_alike x retained released alike)

    opposite_alike : opposite_vote (in_mode x Retaining) retained vote
        ≡ opposite_vote (in_mode x Releasing) released vote
    opposite_alike = ap (find (λ v. opposes v vote)) (firsts_alike x retained released alike)

    opposed_by : (earlier : Vote G D) → opposite_vote (in_mode x Releasing) released vote
        ≡ Some earlier → are_opposite (kind_of earlier) (kind_of vote) ≡ true
    opposed_by earlier e = (and_parts _ _ (found_passes (λ v. opposes v vote) (first_votes (in_mode x Releasing) released) earlier e)).1

    -- WHOM THE RELEASING ROUND BLOCKS
    -- Where a vote conflicts that is the same as the first one, its signer has cast another, for
    -- which the retaining round has blocked it.
    blocked_before : (first : Vote G D) → first_like (in_mode x Releasing) released vote
        ≡ Some first → same_vote x.same_digest x.same_signature first vote ≡ true →
        conflicts (in_mode x Releasing) released vote ≡ true
        → list_any (blocks_participant x (signer_of vote)) retained ≡ true
    blocked_before first found is_same conflict =
        differing_blocked (in_mode x Retaining) refl (kind_of vote) (signer_of vote) other of_kind retained possible others
        (ap (list_any other) (cast_alike retained released alike)
        ∙ compared_is_cast (in_mode x Releasing) other released (conflict_with_compared (in_mode x Releasing) laws_in released vote conflict))
      where
        other : Vote G D → Bool
        other v = is_vote_of (kind_of vote) (signer_of vote) v && carry_different x.same_digest v vote

        of_kind : (v : Vote G D) → other v ≡ true
            → (is_vote_of (kind_of vote) (signer_of vote) v && has_proposals (kind_of v)) ≡ true
        of_kind v h =
            let both = and_parts (is_vote_of (kind_of vote) (signer_of vote) v) (carry_different x.same_digest v vote) h in
            and_from _ _ both.0 (different_has x.same_digest x.same_signature laws.digests_equal laws.digests_same v vote both.1)

        carried : proposal_in (subject_of first) ≡ proposal_in (subject_of vote)
        carried = same_carries x.same_digest x.same_signature laws.digests_equal laws.digests_same first vote is_same

        others : (w : Vote G D) → first_like (in_mode x Retaining) retained vote ≡ Some w
            → (other w ≡ false) × ((v : Vote G D) → other v ≡ true
            → same_vote x.same_digest x.same_signature w v ≡ false)
        others w e =
            let is_first : w ≡ first = same_Some w first (sym e ∙ (like_alike ∙ found)) in
            let carries : proposal_in (subject_of w) ≡ proposal_in (subject_of vote) = ap (λ v. proposal_in (subject_of v)) is_first ∙ carried in (
              and_right (is_vote_of (kind_of vote) (signer_of vote) w) _
                  (carried_alike x.same_digest x.same_signature laws.digests_equal laws.digests_same w vote carries),
              λ v h. false_from_ne_true _ (λ (matched : same_vote x.same_digest x.same_signature w v ≡ true).
                  true≢false
                  (sym (and_parts (is_vote_of (kind_of vote) (signer_of vote) v) (carry_different x.same_digest v vote) h).1
                  ∙ carried_alike x.same_digest x.same_signature laws.digests_equal laws.digests_same v vote
                  (sym (same_carries x.same_digest x.same_signature laws.digests_equal laws.digests_same w v matched) ∙ carries))),
            )

    both_by_first : (first : Option (Vote G D)) (kept conflict : Bool)
        → first_like (in_mode x Releasing) released vote ≡ first
        → conflicts (in_mode x Releasing) released vote ≡ conflict →
        is_some (admission_by_first (in_mode x Releasing) first kept conflict vote).block ≡ true →
        (is_some (admission_by_first (in_mode x Retaining) first false
        (conflicts (in_mode x Retaining) retained vote) vote).block
        || list_any (blocks_participant x (signer_of vote)) retained) ≡ true
    both_by_first None kept conflict e f h = absurd (false≢true h)
    both_by_first (Some first) false conflict e f h = or_left _ _ h
    both_by_first (Some first) true false e f h = absurd (false≢true h)
    both_by_first (Some first) true true e f h =
        ⊎_elim
        (λ is_same. or_right _ _ (blocked_before first e is_same f))
        (λ differs.
        or_left _ _
        (beside_blocks x.same_digest x.same_signature first vote
        ∙ and_from _ _ (and_parts _ _ (found_is_of (first_votes (in_mode x Releasing) released) (kind_of vote) (signer_of vote) first e)).0 (ap not differs)))
        (cases_Bool (same_vote x.same_digest x.same_signature first vote))

    both_against : (opposite : Option (Vote G D))
        → opposite_vote (in_mode x Releasing) released vote ≡ opposite
        → is_some (admission_against (in_mode x Releasing) released opposite vote).block ≡ true →
        (is_some (admission_against (in_mode x Retaining) retained opposite vote).block
        || list_any (blocks_participant x (signer_of vote)) retained) ≡ true
    both_against (Some earlier) e h = or_left _ _ (opposed_blocks (in_mode x Retaining) retained earlier vote (opposed_by earlier e))
    both_against None e h =
        ap (λ o. is_some (admission_by_first (in_mode x Retaining) o false (conflicts (in_mode x Retaining) retained vote) vote).block
        || list_any (blocks_participant x (signer_of vote)) retained) like_alike
        ∙ both_by_first (first_like (in_mode x Releasing) released vote) (is_released (in_mode x Releasing) released (kind_of vote))
        (conflicts (in_mode x Releasing) released vote) refl refl h

    both_by_index : (index : Option Participant)
        → is_some (admission_sent_by (in_mode x Releasing) released index vote).block ≡ true →
        (is_some (admission_sent_by (in_mode x Retaining) retained index vote).block
        || is_some_and index (λ i. list_any (blocks_participant x i.0) retained)) ≡ true
    both_by_index None h = refl
    both_by_index (Some i) h = by_name (eqb i.0 (signer_of vote)) refl h
      where
        by_name : (b : Bool) → eqb i.0 (signer_of vote) ≡ b →
            is_some (cond b (admission_against (in_mode x Releasing) released
            (opposite_vote (in_mode x Releasing) released vote) vote)
            (block_for (mismatch_reason (kind_of vote)) None)).block ≡ true →
            (is_some (cond b (admission_against (in_mode x Retaining) retained
            (opposite_vote (in_mode x Retaining) retained vote) vote)
            (block_for (mismatch_reason (kind_of vote)) None)).block
            || list_any (blocks_participant x i.0) retained) ≡ true
        by_name false named k = refl
        by_name true named k =
            ap (λ o. is_some (admission_against (in_mode x Retaining) retained o vote).block || list_any (blocks_participant x i.0) retained) opposite_alike
            ∙ (ap (λ j. is_some (admission_against (in_mode x Retaining) retained (opposite_vote (in_mode x Releasing) released vote) vote).block
            || list_any (blocks_participant x j) retained) (eqb-true _ _ named)
            ∙ both_against (opposite_vote (in_mode x Releasing) released vote) refl k)

    -- WHOM THE RETAINING ROUND ALONE BLOCKS
    -- Where a vote of a released kind doesn't conflict, and its signer wasn't blocked, facts don't
    -- distinguish it from the first one.
    by_marks : (first : Vote G D) → first_like (in_mode x Releasing) released vote ≡ Some first
        → is_released (in_mode x Releasing) released (kind_of vote) ≡ true →
        conflicts (in_mode x Releasing) released vote ≡ false
        → list_any (blocks_participant x (signer_of vote)) released ≡ false
        → has_proposals (kind_of vote) ≡ true →
        (p : Proposal D) → fixed_proposal released ≡ Some p → (for_vote for_first : Bool)
        → is_for x.same_digest p vote ≡ for_vote → is_for x.same_digest p first ≡ for_first
        → tells_nothing x released vote first ≡ true
    by_marks first found freed agrees unblocked has p fixed true true e f =
        or_left _ _ (selected_alike_of x.same_digest x.same_signature laws.digests_equal laws.digests_same p vote first e f)
    by_marks first found freed agrees unblocked has p fixed false false e f =
        or_right (same_selected x.same_digest (proposal_in (subject_of vote)) (proposal_in (subject_of first))) _
        (ap (λ o. not (is_some_and o (λ q. is_for x.same_digest q vote || is_for x.same_digest q first))) (fixed_is_selected x released p fixed)
        ∙ (ap (λ c. not (c || is_for x.same_digest p first)) e ∙ ap not f))
    by_marks first found freed agrees unblocked has p fixed false true e f =
        absurd (true≢false
        (sym (other_conflicts (in_mode x Releasing) refl (kind_of vote) has (signer_of vote) released also p fixed freed first vote found (is_itself vote) e f)
        ∙ agrees))
    by_marks first found freed agrees unblocked has p fixed true false e f =
        ⊎_elim
        (λ there.
        absurd (true≢false
        (sym (matching_blocked (in_mode x Releasing) refl (kind_of vote) has (signer_of vote) released also p fixed
        (λ w is. ap (is_for x.same_digest p) (same_Some w first (sym is ∙ found)) ∙ f) there) ∙ unblocked)))
        (λ none.
        absurd (true≢false
        (sym (matching_conflicts (in_mode x Releasing) refl (kind_of vote) has (signer_of vote) released also p fixed freed first vote found (is_itself vote) e
        none) ∙ agrees)))
        (cases_Bool (list_any (matches (in_mode x Releasing) refl (kind_of vote) has (signer_of vote) p) (compared_votes (in_mode x Releasing) released)))

    facts_tell_nothing : (first : Vote G D) → first_like (in_mode x Releasing) released vote
        ≡ Some first → is_released (in_mode x Releasing) released (kind_of vote) ≡ true →
        conflicts (in_mode x Releasing) released vote ≡ false
        → list_any (blocks_participant x (signer_of vote)) released ≡ false
        → tells_nothing x released vote first ≡ true
    facts_tell_nothing first found freed agrees unblocked =
        ⊎_elim
        (λ has.
        let fixed = released_is_fixed (in_mode x Releasing) refl (kind_of vote) has released freed in
        by_marks first found freed agrees unblocked has fixed.0 fixed.1 (is_for x.same_digest fixed.0 vote) (is_for x.same_digest fixed.0 first) refl refl)
        (λ lacks.
        let alike_kind : kind_of first ≡ kind_of vote = is_kind-true _ _
        (and_parts _ _ (found_is_of (first_votes (in_mode x Releasing) released) (kind_of vote) (signer_of vote) first found)).0 in
        or_left _ _
        (ap (λ o. same_selected x.same_digest o (proposal_in (subject_of first))) (without_proposal vote lacks)
        ∙ ap (same_selected x.same_digest None) (without_proposal first (ap has_proposals alike_kind ∙ lacks))))
        (cases_Bool (has_proposals (kind_of vote)))

    -- what is to be shown of such a vote
    abbrev IsUntold : Type 0
    IsUntold = (is_released (in_mode x Releasing) released (kind_of vote) && is_some_and (first_like x released vote) (tells_nothing x released vote)) ≡ true

    one_by_first : (first : Option (Vote G D)) (freed conflict : Bool)
        → first_like (in_mode x Releasing) released vote ≡ first
        → is_released (in_mode x Releasing) released (kind_of vote) ≡ freed →
        conflicts (in_mode x Releasing) released vote ≡ conflict
        → list_any (blocks_participant x (signer_of vote)) released ≡ false →
        is_some (admission_by_first (in_mode x Retaining) first false
        (conflicts (in_mode x Retaining) retained vote) vote).block ≡ true →
        is_some (admission_by_first (in_mode x Releasing) first freed conflict vote).block ≡ false
        → IsUntold
    one_by_first None freed conflict e r c unblocked h k = absurd (false≢true h)
    one_by_first (Some first) false conflict e r c unblocked h k = absurd (true≢false (sym h ∙ k))
    one_by_first (Some first) true true e r c unblocked h k = absurd (true≢false k)
    one_by_first (Some first) true false e r c unblocked h k =
        and_from _ _ r (ap (λ o. is_some_and o (tells_nothing x released vote)) e ∙ facts_tell_nothing first e r c unblocked)

    one_against : (opposite : Option (Vote G D)) → opposite_vote (in_mode x Releasing) released vote
        ≡ opposite → list_any (blocks_participant x (signer_of vote)) released ≡ false →
        is_some (admission_against (in_mode x Retaining) retained opposite vote).block ≡ true
        → is_some (admission_against (in_mode x Releasing) released opposite vote).block ≡ false
        → IsUntold
    one_against (Some earlier) e unblocked h k =
        absurd (true≢false (sym (opposed_blocks (in_mode x Releasing) released earlier vote (opposed_by earlier e)) ∙ k))
    one_against None e unblocked h k =
        one_by_first (first_like (in_mode x Releasing) released vote) (is_released (in_mode x Releasing) released (kind_of vote))
        (conflicts (in_mode x Releasing) released vote) refl refl refl unblocked
        (ap (λ o. is_some (admission_by_first (in_mode x Retaining) o false (conflicts (in_mode x Retaining) retained vote) vote).block) (sym like_alike) ∙ h) k

    one_by_index : (index : Option Participant)
        → is_some_and index (λ i. list_any (blocks_participant x i.0) released) ≡ false →
        is_some (admission_sent_by (in_mode x Retaining) retained index vote).block ≡ true
        → is_some (admission_sent_by (in_mode x Releasing) released index vote).block ≡ false
        → IsUntold
    one_by_index None unblocked h k = absurd (true≢false k)
    one_by_index (Some i) unblocked h k = by_name (eqb i.0 (signer_of vote)) refl h k
      where
        by_name : (b : Bool) → eqb i.0 (signer_of vote) ≡ b →
            is_some (cond b (admission_against (in_mode x Retaining) retained
            (opposite_vote (in_mode x Retaining) retained vote) vote)
            (block_for (mismatch_reason (kind_of vote)) None)).block ≡ true →
            is_some (cond b (admission_against (in_mode x Releasing) released
            (opposite_vote (in_mode x Releasing) released vote) vote)
            (block_for (mismatch_reason (kind_of vote)) None)).block ≡ false → IsUntold
        by_name false named m n = absurd (true≢false n)
        by_name true named m n =
            one_against (opposite_vote (in_mode x Releasing) released vote) refl
            (ap (λ j. list_any (blocks_participant x j) released) (sym (eqb-true _ _ named)) ∙ unblocked)
            (ap (λ o. is_some (admission_against (in_mode x Retaining) retained o vote).block) (sym opposite_alike) ∙ m) n

  blocked_by_both_at : (a : Event D K G C) (retained : History D K G C) (b : Event D K G C)
      (released : History D K G C) → AreAlike (a ∷ retained) (b ∷ released) →
      IsPossible (in_mode x Retaining) (a ∷ retained)
      → IsPossible (in_mode x Releasing) (b ∷ released)
      → IsBlockedByBoth x a retained b released
  blocked_by_both_at a retained (NetworkCall sender vote, answer) released alike possible also = λ h.
      ap (λ b. b || was_blocked x retained sender)
      (blocks_is (in_mode x Retaining) retained sender vote a.1 (subst (λ call. MayAnswer (in_mode x Retaining) retained call a.1) alike.0 possible.1.1.0))
      ∙ both_by_index retained released alike.1.1 possible.1.1.1 also.1.1.1 vote (sender_in x sender)
      (sym (blocks_is (in_mode x Releasing) released sender vote answer also.1.1.0) ∙ h)
  blocked_by_both_at a retained b released alike possible also = tt

  -- Whom the releasing round blocks the retaining one blocks too, or has blocked before.
  pub blocked_by_both : (retained released : History D K G C) → AreAlike retained released
      → IsPossible (in_mode x Retaining) retained → IsPossible (in_mode x Releasing) released →
      AtEachPlace (IsBlockedByBoth x) retained released
  blocked_by_both = at_each_place x (IsBlockedByBoth x) blocked_by_both_at

  blocked_by_one_at : (a : Event D K G C) (retained : History D K G C) (b : Event D K G C)
      (released : History D K G C) → AreAlike (a ∷ retained) (b ∷ released) →
      IsPossible (in_mode x Retaining) (a ∷ retained)
      → IsPossible (in_mode x Releasing) (b ∷ released) → IsBlockedByOne x a retained b released
  blocked_by_one_at (NetworkCall sender vote, answer) retained b released alike possible also = λ h unblocked.
      let neither = or_parts (blocks b.1) (was_blocked x released sender) unblocked in
      one_by_index retained released alike.1.1 possible.1.1.1 also.1.1.1 vote (sender_in x sender) neither.1
      (sym (blocks_is (in_mode x Retaining) retained sender vote answer possible.1.1.0) ∙ h)
      (sym (blocks_is (in_mode x Releasing) released sender vote b.1
      (subst (λ call. MayAnswer (in_mode x Releasing) released call b.1) (sym alike.0) also.1.1.0)) ∙ neither.0)
  blocked_by_one_at a retained b released alike possible also = tt

  -- Whom the retaining round alone blocks, then or before, has sent a vote of a kind that is
  -- released, and of which facts say nothing.
  pub blocked_by_one : (retained released : History D K G C) → AreAlike retained released
      → IsPossible (in_mode x Retaining) retained → IsPossible (in_mode x Releasing) released →
      AtEachPlace (IsBlockedByOne x) retained released
  blocked_by_one = at_each_place x (IsBlockedByOne x) blocked_by_one_at
