-- What is known of the votes of a round, and what is answered by it. What a round holds says it,
-- and so does the history of its calls.
use Rattle.std.specs.Prelude.{ℕ, Bool, true, false, not, cond, ◌||◌, ◌==◌, List, Option, Some, None}
use Rattle.std.specs.Prelude.{Result, Ok, Err, filter, map}
use Rattle.std.specs.List.{range_with_len}
use Rattle.batcher_types.specs.declared.positions.Participant.{Participant}
use Rattle.batcher_types.specs.declared.messages.Proposal.{Proposal}
use Rattle.batcher_types.specs.declared.messages.Vote.{Vote}
use Rattle.batcher_types.specs.declared.messages.Kind.{Kind}
use Rattle.batcher_types.specs.declared.messages.Kind.TheVariants.{Notarization, Nullification}
use Rattle.batcher_types.specs.declared.messages.Kind.TheVariants.{Finalization}
use Rattle.batcher_votes.specs.declared.verifier.ProposalState.{ProposalState}
use Rattle.batcher_votes.specs.declared.votes.Outcome.{Outcome}
use Rattle.batcher_votes.specs.declared.votes.Outcome.TheVariants.{Added, Duplicate, Conflicting}
use Rattle.batcher_histories.specs.declared.answers.Admission.{Admission}
use Rattle.batcher_histories.specs.declared.answers.BlockReason.TheVariants.{UnknownParticipant}
use Rattle.batcher_histories.specs.declared.answers.OwnFault.{OwnFault}
use Rattle.batcher_histories.specs.declared.answers.OwnFault.TheVariants.{DuplicateNotarize}
use Rattle.batcher_histories.specs.declared.answers.OwnFault.TheVariants.{DuplicateFinalize}
use Rattle.batcher_histories.specs.declared.answers.OwnFault.TheVariants.{Conflicting as ConflictingFault}
use Rattle.batcher_histories.specs.declared.answers.OwnFault.TheVariants.{NullifyAfterFinalize}
use Rattle.batcher_histories.specs.declared.answers.OwnFault.TheVariants.{FinalizeAfterNullify}
use Rattle.batcher_types.specs.Keys.{participant}
use Rattle.batcher_types.specs.Lists.{is_some_and}
use Rattle.batcher_types.specs.Votes.{kind_of, signer_of}
use Rattle.batcher_votes.specs.ProposalStates.{proposal_of}
use Rattle.batcher_votes.specs.RoundState.{of_kind, Facts, RoundState}
use Rattle.batcher_votes.specs.TrackerSteps.{Observed, unseen, in_full, as_facts, observed}
use Rattle.batcher_votes.specs.TrackerSteps.{observed_opposite, is_seen_for, conflicts_with}
use Rattle.batcher_votes.specs.TrackerSteps.{outcome_by}
use Rattle.batcher_histories.specs.Config.{Config, sender_in}
use Rattle.batcher_histories.specs.Admissions.{addition, refusal, block_for, mismatch_reason}
use Rattle.batcher_histories.specs.Admissions.{conflict_reason, admission_after}
use Rattle.batcher_histories.specs.Admissions.{admission_after_facts, admission_beside}

pub record Known (G D : Type 0) : Type 0 where
  pub leader : Option Participant
  pub selection : ProposalState D
  pub forwarded : Bool
  -- whether votes of the kind are kept as facts alone
  pub is_released : Kind → Bool
  -- the first vote of the kind and signer: none was seen, or it is kept, or facts are
  pub observed : Kind → ℕ → Observed G D
  -- the same of the finalize of its signer that opposes a nullify, or the reverse
  pub opposite : Vote G D → Observed G D

-- A first vote is known in full until its kind is released, and by facts from then on.
abbrev pub known_by : {G D : Type 0} → Bool → Facts → Option (Vote G D) → Observed G D
known_by released facts None = unseen
known_by released facts (Some first) = cond released (as_facts facts) (in_full first)

-- by what a round holds
abbrev pub known_in : {G D : Type 0} → RoundState G D → Known G D
known_in held =
    record {
      leader = held.buffered.leader;
      selection = held.buffered.selection;
      forwarded = held.forwarded;
      is_released = λ kind. of_kind held.tracked.compacted kind;
      observed = λ kind i. observed held.tracked kind i;
      opposite = λ vote. observed_opposite held.tracked vote;
    }

-- FORWARD
-- whether it is the participant
abbrev pub is_participant : Option Participant → Participant → Bool
is_participant leader me = is_some_and leader (λ i. i.0 == me.0)

-- the selected proposal, unless one was forwarded or the leader asks
abbrev pub forward_by : {G D : Type 0} → Known G D → Participant → Option (Proposal D)
forward_by known me =
    cond (known.forwarded || is_participant known.leader me) None (proposal_of known.selection)

-- MISSING
-- by what is known of the first votes
module _ {G D : Type 0} (same : D → D → Bool) (first : Kind → ℕ → Observed G D) where
  -- whether a notarize or a finalize of the participant shows that it has the proposal's block
  abbrev pub has_block_by : ℕ → Proposal D → Bool
  has_block_by i p =
      is_seen_for same p (first Notarization i)
      || is_seen_for same p (first Finalization i)

  -- the participants, of so many, without the block, ascending
  abbrev pub missing_by : Proposal D → ℕ → List Participant
  missing_by p n =
      filter (λ i. not (has_block_by i.0 p)) (map participant (range_with_len 0 n))

-- OWN
-- The fault of an own vote that its index's other one of nullify and finalize excludes. A notarize
-- has no opposite.
abbrev pub opposite_fault : Kind → OwnFault
opposite_fault Notarization = FinalizeAfterNullify
opposite_fault Nullification = NullifyAfterFinalize
opposite_fault Finalization = FinalizeAfterNullify

-- An own notarize or finalize is refused where one of its index is kept.
abbrev pub duplicate_result : Kind → Result Outcome OwnFault
duplicate_result Notarization = Err DuplicateNotarize
duplicate_result Nullification = Ok (Duplicate true)
duplicate_result Finalization = Err DuplicateFinalize

abbrev pub unopposed_result : Kind → Outcome → Result Outcome OwnFault
unopposed_result kind (Added retained) = Ok (Added retained)
unopposed_result kind (Duplicate true) = duplicate_result kind
unopposed_result kind (Duplicate false) = Ok (Duplicate false)
unopposed_result kind Conflicting = Err ConflictingFault

abbrev pub own_result_by : {G D : Type 0} → Observed G D → Kind → Outcome → Result Outcome OwnFault
own_result_by unseen kind outcome = unopposed_result kind outcome
own_result_by (in_full earlier) kind outcome = Err (opposite_fault kind)
own_result_by (as_facts facts) kind outcome = Err (opposite_fault kind)

-- what comes of an own vote, or why it is refused
abbrev pub own_by : {G D : Type 0} → (D → D → Bool) → Known G D → Vote G D
    → Result Outcome OwnFault
own_by same known vote =
    own_result_by (known.opposite vote) (kind_of vote)
    (outcome_by same (proposal_of known.selection) (known.is_released (kind_of vote))
    (known.observed (kind_of vote) (signer_of vote)) vote)

-- NETWORK
module _ {D K G C : Type 0} (x : Config D K G C) where
  -- What a vote that names its sender is answered where none opposes it: by what is known of the
  -- first one of its kind and signer.
  abbrev pub admission_by : Option (Proposal D) → Observed G D → Vote G D → Admission G D
  admission_by selected unseen vote = addition vote
  admission_by selected (in_full kept) vote =
      admission_beside x.same_digest x.same_signature kept vote
  admission_by selected (as_facts facts) vote =
      cond (conflicts_with x.same_digest selected vote facts)
      (block_for (conflict_reason (kind_of vote)) None) refusal

  -- One after the opposite one of its signer is reported with that where it is kept in full.
  abbrev pub admission_named : Known G D → Observed G D → Vote G D → Admission G D
  admission_named known unseen vote =
      admission_by (proposal_of known.selection)
      (known.observed (kind_of vote) (signer_of vote)) vote
  admission_named known (in_full earlier) vote = admission_after earlier vote
  admission_named known (as_facts facts) vote = admission_after_facts vote

  abbrev pub admission_from : Known G D → Option Participant → Vote G D → Admission G D
  admission_from known None vote = block_for UnknownParticipant None
  admission_from known (Some i) vote =
      cond (i.0 == signer_of vote) (admission_named known (known.opposite vote) vote)
      (block_for (mismatch_reason (kind_of vote)) None)

  -- what a network vote is answered: whether it is added, whether its sender is blocked, and what
  -- is reported
  abbrev pub network_by : Known G D → K → Vote G D → Admission G D
  network_by known sender vote = admission_from known (sender_in x sender) vote

-- CONSTRUCT
-- of notarize, nullify and finalize the first that is ready
abbrev pub first_ready : (Kind → Bool) → Option Kind
first_ready is_ready =
    cond (is_ready Notarization) (Some Notarization)
    (cond (is_ready Nullification) (Some Nullification)
    (cond (is_ready Finalization) (Some Finalization) None))
