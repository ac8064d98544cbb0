-- A view at rest has lost no quorum.
use Rattle.batcher_node.proofs.Words.{◌≡◌, ◌≤◌, ◌-◌, ◌/◌, ℕ, Bool, true, false, not, cond, ◌&&◌, List, [], ◌∷◌, ◌++◌, Option, Some, None, refl, sym, ap, ◌∙◌}
use Rattle.batcher_node.proofs.Words.{arith, length, nat_le, filter, find, option_and_then, option_or, true≢false, false≢true, or_parts, Participant, Proposal}
use Rattle.batcher_node.proofs.Words.{Vote, Kind, Notarization, Call, NetworkCall, OwnCall, CertificateCall, LeaderCall, ConstructCall, ForwardCall}
use Rattle.batcher_node.proofs.Words.{MissingCall, Answer, NetworkAnswer, OwnAnswer, OwnRefused, CertificateAnswer, LeaderAnswer, ConstructAnswer}
use Rattle.batcher_node.proofs.Words.{ForwardAnswer, MissingAnswer, OutOfMemory, Config, quorum_in, participants_in, proposal_of, is_skipped, is_of_kind}
use Rattle.batcher_node.proofs.Words.{is_vote_of, subject_of, proposal_in, Event, History, names_sender, cast_votes, first_votes, is_free, selection_by}
use Rattle.batcher_node.proofs.Words.{is_certified, fixed_proposal, fixing_evidence, leader_of, leader_named, is_valid, is_counted, IsPossible, AtEachVote}
use Rattle.batcher_node.proofs.Words.{AtEachEvent, IsAcceptedExactly, Rests, ends_in_constructions, LeavesNoneDue}
use Rattle.batcher.specs.CertificateTiming as prompt
use Rattle.batcher_node.proofs.Words.{due_after, is_to_be_tried}
use Rattle.batcher_node.proofs.Answering.{or_none}

some_quorum : (n : ℕ) → 1 ≤ n → nat_le (n - (n - 1) / 3) 0 ≡ false
some_quorum n some = grind (arith, some)

none_of : {X : Type 0} (test other : X → Bool) (b : Bool)
    → length (filter test (cond b [] (filter other []))) ≡ 0
none_of test other true = refl
none_of test other false = refl

module _ {D K G C : Type 0} (y : Config D K G C) where
  -- whether a kind is due, by what it depends on
  abbrev due_by : Bool → Option (Proposal D) → Option Participant → List (Vote G D) → Kind → Bool
  due_by certified fixed leader votes kind =
      let leaders = cond (is_skipped y.mode) None
      (option_and_then (λ v. proposal_in (subject_of v))
      (option_and_then (λ i. find (is_vote_of Notarization i.0) votes) leader)) in
      let selected = proposal_of (selection_by fixed leaders) in
      not certified && nat_le (quorum_in y) (length (filter (is_valid y)
      (cond (is_skipped y.mode) [] (filter (λ v. is_of_kind kind v && is_counted y selected v) votes))))

  -- An event that adds no vote, names no leader and brings no evidence leaves what is due.
  unmoved : (event : Event D K G C) (past : History D K G C) (kind : Kind)
      → is_certified (event ∷ past) kind ≡ is_certified past kind
      → fixing_evidence event ≡ None → leader_named event.0 ≡ None
      → filter (is_free (first_votes y past)) (cast_votes y event.0) ≡ []
      → prompt.is_due y (event ∷ past) kind ≡ prompt.is_due y past kind
  unmoved event past kind certified fixing leader votes =
      ap (λ c. due_by c (fixed_proposal (event ∷ past)) (leader_of (event ∷ past))
      (first_votes y (event ∷ past)) kind) certified
      ∙ ap (λ f. due_by (is_certified past kind) (option_or (fixed_proposal past) f)
      (leader_of (event ∷ past)) (first_votes y (event ∷ past)) kind) fixing
      ∙ ap (λ f. due_by (is_certified past kind) f
      (leader_of (event ∷ past)) (first_votes y (event ∷ past)) kind) (sym (or_none (fixed_proposal past)))
      ∙ ap (λ l. due_by (is_certified past kind) (fixed_proposal past) (option_or (leader_of past) l)
      (first_votes y (event ∷ past)) kind) leader
      ∙ ap (λ l. due_by (is_certified past kind) (fixed_proposal past) l
      (first_votes y (event ∷ past)) kind) (sym (or_none (leader_of past)))
      ∙ ap (λ v. due_by (is_certified past kind) (fixed_proposal past) (leader_of past)
      (v ++ first_votes y past) kind) votes

  -- a vote that isn't added is no first vote
  none_added : (past : History D K G C) (sender : K) (vote : Vote G D) (names : Bool)
      → (names && is_free (first_votes y past) vote) ≡ false
      → filter (is_free (first_votes y past)) (cond names (vote ∷ []) [] ++ []) ≡ []
  none_added past sender vote false is = refl
  none_added past sender vote true is =
      ap (λ b. cond b (vote ∷ []) []) is

  rested_after : (event : Event D K G C) (past : History D K G C) (kind : Kind)
      → IsPossible y (event ∷ past)
      → AtEachVote (IsAcceptedExactly y) (event ∷ past)
      → AtEachEvent (LeavesNoneDue y) (event ∷ past)
      → (is_to_be_tried past ≡ false → prompt.is_due y past kind ≡ false)
      → is_to_be_tried (event ∷ past) ≡ false → prompt.is_due y (event ∷ past) kind ≡ false
  rested_after (NetworkCall sender vote, NetworkAnswer admission) past kind possible exact none before rests =
      unmoved (NetworkCall sender vote, NetworkAnswer admission) past kind refl refl refl
      (none_added past sender vote (names_sender y sender vote)
      (sym exact.0 ∙ (or_parts admission.added (is_to_be_tried past) rests).0))
      ∙ before (or_parts admission.added (is_to_be_tried past) rests).1
  rested_after (ConstructCall, ConstructAnswer None) past kind possible exact none before rests =
      unmoved (ConstructCall, ConstructAnswer None) past kind refl refl refl refl ∙ none.0 kind
  rested_after (ForwardCall me, ForwardAnswer given) past kind possible exact none before rests =
      unmoved (ForwardCall me, ForwardAnswer given) past kind refl refl refl refl ∙ before rests
  rested_after (ConstructCall, ConstructAnswer (Some batch)) past kind possible exact none before rests =
      absurd (true≢false rests)
  rested_after (OwnCall vote, answer) past kind possible exact none before rests = absurd (true≢false rests)
  rested_after (CertificateCall certificate, answer) past kind possible exact none before rests =
      absurd (true≢false rests)
  rested_after (LeaderCall leader, answer) past kind possible exact none before rests =
      absurd (true≢false rests)
  rested_after (MissingCall proposal, answer) past kind possible exact none before rests =
      absurd (true≢false rests)
  rested_after (NetworkCall sender vote, OwnAnswer a b) past kind possible exact none before rests = absurd possible.1.1.0
  rested_after (NetworkCall sender vote, OwnRefused a) past kind possible exact none before rests = absurd possible.1.1.0
  rested_after (NetworkCall sender vote, CertificateAnswer a) past kind possible exact none before rests = absurd possible.1.1.0
  rested_after (NetworkCall sender vote, LeaderAnswer a) past kind possible exact none before rests = absurd possible.1.1.0
  rested_after (NetworkCall sender vote, ConstructAnswer a) past kind possible exact none before rests = absurd possible.1.1.0
  rested_after (NetworkCall sender vote, ForwardAnswer a) past kind possible exact none before rests = absurd possible.1.1.0
  rested_after (NetworkCall sender vote, MissingAnswer a) past kind possible exact none before rests = absurd possible.1.1.0
  rested_after (NetworkCall sender vote, OutOfMemory) past kind possible exact none before rests = absurd possible.1.1.0
  rested_after (ConstructCall, NetworkAnswer a) past kind possible exact none before rests = absurd possible.1.1.0
  rested_after (ConstructCall, OwnAnswer a b) past kind possible exact none before rests = absurd possible.1.1.0
  rested_after (ConstructCall, OwnRefused a) past kind possible exact none before rests = absurd possible.1.1.0
  rested_after (ConstructCall, CertificateAnswer a) past kind possible exact none before rests = absurd possible.1.1.0
  rested_after (ConstructCall, LeaderAnswer a) past kind possible exact none before rests = absurd possible.1.1.0
  rested_after (ConstructCall, ForwardAnswer a) past kind possible exact none before rests = absurd possible.1.1.0
  rested_after (ConstructCall, MissingAnswer a) past kind possible exact none before rests = absurd possible.1.1.0
  rested_after (ConstructCall, OutOfMemory) past kind possible exact none before rests = absurd possible.1.1.0
  rested_after (ForwardCall me, NetworkAnswer a) past kind possible exact none before rests = absurd possible.1.1.0
  rested_after (ForwardCall me, OwnAnswer a b) past kind possible exact none before rests = absurd possible.1.1.0
  rested_after (ForwardCall me, OwnRefused a) past kind possible exact none before rests = absurd possible.1.1.0
  rested_after (ForwardCall me, CertificateAnswer a) past kind possible exact none before rests = absurd possible.1.1.0
  rested_after (ForwardCall me, LeaderAnswer a) past kind possible exact none before rests = absurd possible.1.1.0
  rested_after (ForwardCall me, ConstructAnswer a) past kind possible exact none before rests = absurd possible.1.1.0
  rested_after (ForwardCall me, MissingAnswer a) past kind possible exact none before rests = absurd possible.1.1.0
  rested_after (ForwardCall me, OutOfMemory) past kind possible exact none before rests = absurd possible.1.1.0

  -- Where a round has not to be looked at, no kind is due.
  pub rested : (past : History D K G C) (kind : Kind) → 1 ≤ participants_in y → IsPossible y past
      → AtEachVote (IsAcceptedExactly y) past → AtEachEvent (LeavesNoneDue y) past
      → is_to_be_tried past ≡ false → prompt.is_due y past kind ≡ false
  rested [] kind some possible exact none rests =
      ap (λ n. nat_le (quorum_in y) n) (none_of (is_valid y) (is_valid y) (is_skipped y.mode))
      ∙ some_quorum (participants_in y) some
  rested (event ∷ past) kind some possible exact none rests =
      rested_after event past kind possible exact none
      (rested past kind some possible.1.1.1 (exact_before event past exact) none.1) rests where
        exact_before : (event : Event D K G C) (past : History D K G C)
            → AtEachVote (IsAcceptedExactly y) (event ∷ past)
            → AtEachVote (IsAcceptedExactly y) past
        exact_before (NetworkCall sender vote, NetworkAnswer admission) past h = h.1
        exact_before event past h = h

-- FEW CONSTRUCTIONS IN A ROW
module _ {D K G C : Type 0} where
  four_rest : (call : Call K G C D) (answer : Answer G C D) (past : History D K G C)
      → ends_in_constructions 4 ((call, answer) ∷ past) ≡ true → answer ≡ ConstructAnswer None
      → is_to_be_tried ((call, answer) ∷ past) ≡ false
  four_rest ConstructCall answer past four is = ap (λ a. due_after {K = K} (ConstructCall, a) (is_to_be_tried past)) is
  four_rest (NetworkCall sender vote) answer past four is = absurd (false≢true four)
  four_rest (OwnCall vote) answer past four is = absurd (false≢true four)
  four_rest (CertificateCall certificate) answer past four is = absurd (false≢true four)
  four_rest (LeaderCall leader) answer past four is = absurd (false≢true four)
  four_rest (ForwardCall me) answer past four is = absurd (false≢true four)
  four_rest (MissingCall proposal) answer past four is = absurd (false≢true four)

  -- A view that has to be looked at wasn't constructed four times in a row before.
  pub few_before : (past : History D K G C) → AtEachEvent Rests past → is_to_be_tried past ≡ true
      → ends_in_constructions 4 past ≡ false
  few_before [] rests due = absurd (false≢true due)
  few_before ((call, answer) ∷ past) rests due =
      by_four (ends_in_constructions 4 ((call, answer) ∷ past)) refl where
        by_four : (b : Bool) → ends_in_constructions 4 ((call, answer) ∷ past) ≡ b → b ≡ false
        by_four true four =
            absurd (false≢true (sym (four_rest call answer past four (rests.0 four)) ∙ due))
        by_four false four = refl
