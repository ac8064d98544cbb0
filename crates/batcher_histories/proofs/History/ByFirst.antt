-- What a history answers to votes, by the first votes, by whether their kind is released and by
-- whether they conflict. What is promised of answers is proved so.
use Rattle.batcher_histories.proofs.Words.{◌≡◌, ◌∙◌, ◌==◌, ◌||◌, ◌&&◌, ℕ, Bool, true, false, not, cond, List, Option, Some, None, Result, Err, refl, sym, ap}
use Rattle.batcher_histories.proofs.Words.{and_right, list_any, Participant, Proposal, Vote, Kind, Notarization, Finalization, Outcome, Added, Duplicate}
use Rattle.batcher_histories.proofs.Words.{Conflicting, Admission, UnknownParticipant, OwnFault, is_empty, is_some_and, exactly_one, kind_of, signer_of, is_for}
use Rattle.batcher_histories.proofs.Words.{Facts, as_facts, in_full, is_seen_for, outcome_by, Config, sender_in, addition, refusal, block_for, mismatch_reason}
use Rattle.batcher_histories.proofs.Words.{conflict_reason, admission_after, admission_after_facts, admission_beside, known_by, admission_from, History}
use Rattle.batcher_histories.proofs.Words.{first_vote, first_like, opposite_vote, selected_proposal, is_released, compared_votes_of, is_matched, conflicts}
use Rattle.batcher_histories.proofs.Words.{facts_of, known_after, known_opposite, has_block, network_answer, own_answer}
use Rattle.batcher_histories.specs.Known.{opposite_fault, unopposed_result, own_result_by, admission_by, admission_named}
use Rattle.batcher_histories.proofs.KnownLemmas.Observed.{none_compared, nothing_matches}

module _ {D K G C : Type 0} (x : Config D K G C) where
  -- CONFLICTS
  -- whether the vote is for the proposal and none of the others is, or some of them is and the vote
  -- isn't
  abbrev pub differs_from : List (Vote G D) → Vote G D → Proposal D → Bool
  differs_from others vote p =
      not (is_empty others) && exactly_one (is_for x.same_digest p vote)
      (list_any (is_for x.same_digest p) others)

  pub conflicts_is : (past : History D K G C) (vote : Vote G D) → conflicts x past vote
      ≡ is_some_and (selected_proposal x past)
      (differs_from (compared_votes_of x past (kind_of vote) (signer_of vote)) vote)
  conflicts_is past vote = by_selected (selected_proposal x past) (compared_votes_of x past (kind_of vote) (signer_of vote))
    where
      by_selected : (selected : Option (Proposal D)) (others : List (Vote G D)) →
          (not (is_empty others) && is_some_and selected
          (λ p. exactly_one (is_for x.same_digest p vote)
          (is_some_and selected (λ q. list_any (is_for x.same_digest q) others))))
          ≡ is_some_and selected (differs_from others vote)
      by_selected None others = and_right (not (is_empty others)) false refl
      by_selected (Some p) others = refl

  -- A NETWORK VOTE
  abbrev pub admission_by_first : Option (Vote G D) → Bool → Bool → Vote G D → Admission G D
  admission_by_first None released conflict vote = addition vote
  admission_by_first (Some kept) false conflict vote =
      admission_beside x.same_digest x.same_signature kept vote
  admission_by_first (Some seen) true conflict vote =
      cond conflict (block_for (conflict_reason (kind_of vote)) None) refusal

  abbrev pub admission_against : History D K G C → Option (Vote G D) → Vote G D → Admission G D
  admission_against past (Some earlier) vote =
      cond (is_released x past (kind_of earlier)) (admission_after_facts vote)
      (admission_after earlier vote)
  admission_against past None vote =
      admission_by_first (first_like x past vote) (is_released x past (kind_of vote))
      (conflicts x past vote) vote

  abbrev pub admission_sent_by : History D K G C → Option Participant → Vote G D → Admission G D
  admission_sent_by past None vote = block_for UnknownParticipant None
  admission_sent_by past (Some i) vote =
      cond (i.0 == signer_of vote) (admission_against past (opposite_vote x past vote) vote)
      (block_for (mismatch_reason (kind_of vote)) None)

  module _ (past : History D K G C) (vote : Vote G D) where
    abbrev facts : Facts
    facts = facts_of x past (kind_of vote) (signer_of vote)

    by_first : (first : Option (Vote G D)) (released : Bool) →
        admission_by x (selected_proposal x past) (known_by released facts first) vote
        ≡ admission_by_first first released (conflicts x past vote) vote
    by_first None released = refl
    by_first (Some kept) false = refl
    by_first (Some seen) true = refl

    against_is : (opposite : Option (Vote G D)) →
        admission_named x (known_after x past) (known_opposite x past opposite) vote
        ≡ admission_against past opposite vote
    against_is None = by_first (first_like x past vote) (is_released x past (kind_of vote))
    against_is (Some earlier) = by_release (is_released x past (kind_of earlier))
      where
        by_release : (released : Bool) →
            admission_named x (known_after x past)
            (cond released (as_facts (facts_of x past (kind_of earlier) (signer_of earlier)))
            (in_full earlier)) vote
            ≡ cond released (admission_after_facts vote) (admission_after earlier vote)
        by_release true = refl
        by_release false = refl

    sent_by_is : (index : Option Participant) → admission_from x (known_after x past) index vote
        ≡ admission_sent_by past index vote
    sent_by_is None = refl
    sent_by_is (Some i) =
        ap (λ a. cond (i.0 == signer_of vote) a (block_for (mismatch_reason (kind_of vote)) None)) (against_is (opposite_vote x past vote))

    pub network_is : (sender : K) → network_answer x past sender vote
        ≡ admission_sent_by past (sender_in x sender) vote
    network_is sender = sent_by_is (sender_in x sender)

  -- AN OWN VOTE
  abbrev pub outcome_by_first : Option (Vote G D) → Bool → Bool → Outcome
  outcome_by_first None released conflict = Added (not released)
  outcome_by_first (Some kept) false conflict = Duplicate true
  outcome_by_first (Some seen) true conflict = cond conflict Conflicting (Duplicate false)

  abbrev pub own_answer_against : History D K G C → Option (Vote G D) → Vote G D
      → Result Outcome OwnFault
  own_answer_against past (Some earlier) vote = Err (opposite_fault (kind_of vote))
  own_answer_against past None vote =
      unopposed_result (kind_of vote) (outcome_by_first (first_like x past vote)
      (is_released x past (kind_of vote)) (conflicts x past vote))

  module _ (past : History D K G C) (vote : Vote G D) where
    outcome_is : (first : Option (Vote G D)) (released : Bool) →
        outcome_by x.same_digest (selected_proposal x past) released
        (known_by released (facts past vote) first) vote
        ≡ outcome_by_first first released (conflicts x past vote)
    outcome_is None released = refl
    outcome_is (Some kept) false = refl
    outcome_is (Some seen) true = refl

    own_by_opposite : (opposite : Option (Vote G D)) (outcome : Outcome)
        → outcome ≡ outcome_by_first (first_like x past vote) (is_released x past (kind_of vote))
        (conflicts x past vote)
        → own_result_by (known_opposite x past opposite) (kind_of vote) outcome
        ≡ own_answer_against past opposite vote
    own_by_opposite None outcome is = ap (unopposed_result (kind_of vote)) is
    own_by_opposite (Some earlier) outcome is = by_release (is_released x past (kind_of earlier))
      where
        by_release : (released : Bool) →
            own_result_by (cond released
            (as_facts (facts_of x past (kind_of earlier) (signer_of earlier)))
            (in_full earlier)) (kind_of vote) outcome ≡ Err (opposite_fault (kind_of vote))
        by_release true = refl
        by_release false = refl

    pub own_is : own_answer x past vote
        ≡ own_answer_against past (opposite_vote x past vote) vote
    own_is =
        own_by_opposite (opposite_vote x past vote) _
        (outcome_is (first_like x past vote) (is_released x past (kind_of vote)))

  -- WHO HAS A BLOCK
  -- Votes of a kind show it: while they are kept, by the proposal that the first one carries; once
  -- they are released, by a compared one for the selected proposal.
  abbrev pub shows_block : History D K G C → Kind → ℕ → Proposal D → Bool
  shows_block past kind i p =
      cond (is_released x past kind) (is_matched x past kind i)
      (is_some_and (first_vote x past kind i) (is_for x.same_digest p))

  module _ (past : History D K G C) (i : ℕ) (p : Proposal D) where
    shows_by : (kind : Kind) (released : Bool) (first : Option (Vote G D))
        → first_vote x past kind i ≡ first
        → is_seen_for x.same_digest p (known_by released (facts_of x past kind i) first)
        ≡ cond released (is_matched x past kind i) (is_some_and first (is_for x.same_digest p))
    shows_by kind true None e = sym (nothing_matches x (selected_proposal x past) (compared_votes_of x past kind i) (none_compared x past kind i e))
    shows_by kind false None e = refl
    shows_by kind true (Some v) e = refl
    shows_by kind false (Some v) e = refl

    pub has_block_is : has_block x past i p
        ≡ (shows_block past Notarization i p || shows_block past Finalization i p)
    has_block_is =
        ap (λ b. b || is_seen_for x.same_digest p ((known_after x past).observed Finalization i))
        (shows_by Notarization (is_released x past Notarization) (first_vote x past Notarization i) refl)
        ∙ ap (λ b. shows_block past Notarization i p || b)
        (shows_by Finalization (is_released x past Finalization) (first_vote x past Finalization i) refl)
