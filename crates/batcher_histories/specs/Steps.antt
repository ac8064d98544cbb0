-- What each call of a round answers and changes, by what the round holds alone.
use Rattle.std.specs.Prelude.{◌≡◌, ◌≤◌, ℕ, Bool, true, false, not, cond, ◌&&◌, ◌==◌, List, []}
use Rattle.std.specs.Prelude.{length, Option, Some, None, is_some, Result, Ok, Err, MatchBool}
use Rattle.std.specs.Prelude.{filter}
use Rattle.rand_core.specs.Stream.{Stream}
use Rattle.batcher_types.specs.declared.positions.Participant.{Participant}
use Rattle.batcher_types.specs.declared.messages.Proposal.{Proposal}
use Rattle.batcher_types.specs.declared.messages.Certificate.{Certificate}
use Rattle.batcher_types.specs.declared.messages.Vote.{Vote}
use Rattle.batcher_types.specs.declared.messages.Vote.TheVariants.{Notarize as NotarizeVote}
use Rattle.batcher_types.specs.declared.messages.Vote.TheVariants.{Nullify as NullifyVote}
use Rattle.batcher_types.specs.declared.messages.Vote.TheVariants.{Finalize as FinalizeVote}
use Rattle.batcher_types.specs.declared.messages.Kind.{Kind}
use Rattle.batcher_types.specs.declared.messages.Kind.TheVariants.{Notarization, Finalization}
use Rattle.batcher_histories.specs.declared.answers.Admission.{Admission}
use Rattle.batcher_types.specs.declared.messages.Activity.{Activity}
use Rattle.batcher_histories.specs.declared.answers.OwnFault.{OwnFault}
use Rattle.batcher_histories.specs.declared.answers.OwnFault.TheVariants.{OutOfMemory}
use Rattle.batcher_votes.specs.declared.votes.Outcome.{Outcome}
use Rattle.batcher_votes.specs.declared.votes.Outcome.TheVariants.{Added, Duplicate, Conflicting}
use Rattle.batcher_votes.specs.declared.votes.Mode.{Mode}
use Rattle.batcher_votes.specs.declared.verifier.Batch.{Batch}
use Rattle.batcher_votes.specs.declared.verifier.ProposalState.TheVariants.{Certificate as FixedProposal}
use Rattle.batcher_votes.specs.declared.verifier.LeaderFault.{LeaderFault}
use Rattle.batcher_votes.specs.declared.verifier.LeaderFault.TheVariants.{LeaderChanged}
use Rattle.batcher_types.specs.Lists.{is_some_and}
use Rattle.batcher_types.specs.Quorum.{quorum_of}
use Rattle.batcher_types.specs.Meaning.{Meaning}
use Rattle.batcher_histories.specs.Config.{Config, quorum_in, sender_in}
pub use Rattle.batcher_histories.specs.Known.{is_participant, opposite_fault, duplicate_result}
pub use Rattle.batcher_histories.specs.Known.{unopposed_result, own_result_by, admission_by}
pub use Rattle.batcher_histories.specs.Known.{admission_named}
use Rattle.batcher_histories.specs.Known.{known_in, forward_by, has_block_by, missing_by, own_by}
use Rattle.batcher_histories.specs.Known.{network_by, first_ready}
use Rattle.batcher_types.specs.Votes.{is_kind, kind_of, signer_of, proposal_in, subject_of}
use Rattle.batcher_types.specs.Votes.{kind_certified, subject_certified, is_eligible}
use Rattle.batcher_votes.specs.ProposalStates.{proposal_of, is_fixed, updated, fixes, same_selected}
use Rattle.batcher_votes.specs.RoundState.{of_kind, VerifierState, TrackerView, RoundState}
use Rattle.batcher_votes.specs.TrackerSteps.{Observed, unseen, in_full, as_facts, is_seen, observed}
use Rattle.batcher_votes.specs.TrackerSteps.{observed_opposite, kept_vote, RecordsKind}
use Rattle.batcher_votes.specs.TrackerSteps.{ReleasesKind, nothing_tracked, is_released_in}
use Rattle.batcher_votes.specs.VerifierSteps.{nothing_buffered, AddsVote, SetsLeader, SetsProposal}
use Rattle.batcher_votes.specs.VerifierSteps.{MayFix, CompletesKind, TriesKind, is_ready}
use Rattle.batcher_votes.specs.VerifierSteps.{restored_by_fix, selected_in}
use Rattle.batcher_histories.specs.Admissions.{report_of, admission_after, admission_after_facts}
use Rattle.batcher_histories.specs.Admissions.{admission_beside}
use Rattle.batcher_votes.specs.Soundness.{BuffersOnlyKept}

module _ {G D : Type 0} where
  -- what a new round holds
  abbrev pub nothing_held : Mode → RoundState G D
  nothing_held mode =
      record { tracked = nothing_tracked mode; buffered = nothing_buffered; forwarded = false }

-- the proposal of a notarize
abbrev pub option_proposal : {G D : Type 0} → Option (Vote G D) → Option (Proposal D)
option_proposal None = None
option_proposal (Some vote) = proposal_in (subject_of vote)

-- What a round keeps true: votes wait where they are kept; those of a kind are compacted exactly
-- where they are released; and a
-- finalization has fixed its proposal.
pub record IsRight {D K G C : Type 0} (m : Meaning D K G C) (tracker : TrackerView G D)
    (held : VerifierState G D) (quorum : ℕ) : Type 0 where
  pub some : 1 ≤ length m.participants
  pub quorum_is : quorum ≡ quorum_of (length m.participants)
  pub bound : tracker.participants ≡ length m.participants
  pub within : BuffersOnlyKept tracker.holds held
  pub compacted : (kind : Kind) → of_kind tracker.holds.compacted kind
      ≡ is_released_in tracker.mode (of_kind held.certified kind)
  pub fixed : of_kind held.certified Finalization ≡ true → is_fixed held.selection ≡ true

-- another leader than the one that is set is refused
abbrev pub leader_set_answer : Option Participant → Participant → Result (Unit {0}) LeaderFault
leader_set_answer None leader = Ok tt
leader_set_answer (Some known) leader = cond (known.0 == leader.0) (Ok tt) (Err LeaderChanged)

-- what is handed on to a participant
abbrev pub forward_answer : {G D : Type 0} → RoundState G D → Participant → Option (Proposal D)
forward_answer held me = forward_by (known_in held) me

-- whether a participant is known to have the proposal's block
abbrev pub has_block_held : {G D : Type 0} → (D → D → Bool) → RoundState G D → ℕ → Proposal D → Bool
has_block_held same held i p = has_block_by same (λ kind j. observed held.tracked kind j) i p

-- the participants, of so many, that aren't known to have it
abbrev pub missing_in : {G D : Type 0} → (D → D → Bool) → RoundState G D → Proposal D → ℕ
    → List Participant
missing_in same held p n = missing_by same (λ kind j. observed held.tracked kind j) p n

-- what is answered where memory is refused, if nothing else excludes the vote
abbrev pub fault_or_memory : Result Outcome OwnFault → OwnFault
fault_or_memory (Ok outcome) = OutOfMemory
fault_or_memory (Err fault) = fault

-- the proposal that an own vote fixes
abbrev pub fixed_by : {G D : Type 0} → Vote G D → Option (Proposal D)
fixed_by (NotarizeVote vote) = None
fixed_by (NullifyVote vote) = None
fixed_by (FinalizeVote vote) = Some vote.proposal

-- a vote that is added is reported
abbrev pub report_by : {G D : Type 0} → Outcome → Vote G D → Option (Activity G D)
report_by (Added retained) vote = Some (report_of vote)
report_by (Duplicate retained) vote = None
report_by Conflicting vote = None

abbrev pub is_added : Outcome → Bool
is_added (Added retained) = true
is_added (Duplicate retained) = false
is_added Conflicting = false

-- whether the vote is added and kept in full
abbrev pub is_kept : Outcome → Bool
is_kept (Added retained) = retained
is_kept (Duplicate retained) = false
is_kept Conflicting = false

module _ {D K G C : Type 0} (x : Config D K G C) where
  -- LEADER
  pub record AfterLeader (old : RoundState G D) (leader : Participant)
      (new : RoundState G D) : Type 0 where
    pub tracked : new.tracked ≡ old.tracked
    pub forwarded : new.forwarded ≡ old.forwarded
    -- The first leader that is named stays. Its kept notarize selects its proposal.
    pub buffered :
        MatchBool (is_some old.buffered.leader) (new.buffered ≡ old.buffered)
        (SetsLeader x.same_digest old.buffered leader
        (option_proposal (kept_vote old.tracked Notarization leader.0)) new.buffered)

  -- NETWORK
  -- What is answered to a vote that is not to be recorded: a nullify after a finalize or the
  -- reverse, and one beside a kept vote.
  abbrev pub rejection_by : Observed G D → Observed G D → Vote G D → Option (Admission G D)
  rejection_by (in_full earlier) own vote = Some (admission_after earlier vote)
  rejection_by (as_facts facts) own vote = Some (admission_after_facts vote)
  rejection_by unseen (in_full kept) vote =
      Some (admission_beside x.same_digest x.same_signature kept vote)
  rejection_by unseen unseen vote = None
  rejection_by unseen (as_facts facts) vote = None

  abbrev pub rejection_to : RoundState G D → Vote G D → Option (Admission G D)
  rejection_to held vote =
      rejection_by (observed_opposite held.tracked vote)
      (observed held.tracked (kind_of vote) (signer_of vote)) vote

  -- what a network vote is answered
  abbrev pub admission : RoundState G D → K → Vote G D → Admission G D
  admission held sender vote = network_by x (known_in held) sender vote

  -- A vote is recorded where it names its sender and isn't opposed.
  abbrev pub is_recorded : RoundState G D → K → Vote G D → Bool
  is_recorded held sender vote =
      is_some_and (sender_in x sender) (λ i. i.0 == signer_of vote)
      && not (is_seen (observed_opposite held.tracked vote))

  pub record AfterNetwork (old : RoundState G D) (sender : K) (vote : Vote G D)
      (answer : Admission G D)
      (new : RoundState G D) : Type 0 where
    pub answer_is : answer ≡ admission old sender vote
    pub forwarded : new.forwarded ≡ old.forwarded
    pub tracked : (kind : Kind) → RecordsKind x.same_digest old.tracked new.tracked
        (selected_in old.buffered) (is_recorded old sender vote) vote kind
    -- One that is added and kept in full waits for its certificate.
    pub buffered :
        MatchBool (answer.added && not (of_kind old.tracked.compacted (kind_of vote)))
        (AddsVote x.same_digest old.buffered vote false new.buffered) (new.buffered ≡ old.buffered)

  -- OWN
  -- what comes of an own vote, or why it is refused
  abbrev pub own_result : RoundState G D → Vote G D → Result Outcome OwnFault
  own_result held vote = own_by x.same_digest (known_in held) vote

  pub record AfterOwn (old : RoundState G D) (vote : Vote G D) (outcome : Outcome)
      (report : Option (Activity G D)) (new : RoundState G D) : Type 0 where
    pub outcome_is : own_result old vote ≡ Ok outcome
    pub report_is : report ≡ report_by outcome vote
    pub forwarded : new.forwarded ≡ old.forwarded
    -- A finalize fixes its proposal first.
    pub fixed : VerifierState G D
    pub fixes : MayFix x.same_digest old.buffered old.tracked.kept (fixed_by vote) fixed
    pub tracked : (kind : Kind) → RecordsKind x.same_digest old.tracked new.tracked
        (selected_in fixed) true vote kind
    -- One that is added and kept in full waits as verified.
    pub buffered : MatchBool (is_kept outcome) (AddsVote x.same_digest fixed vote true new.buffered)
        (new.buffered ≡ fixed)

  -- the kept votes of a kind that wait again where a proposal is fixed
  abbrev pub restored_by : RoundState G D → Option (Proposal D) → Kind → List (Vote G D)
  restored_by old None kind = []
  restored_by old (Some p) kind =
      cond (of_kind old.buffered.certified kind) []
      (filter (is_eligible x.same_digest (Some p))
      (restored_by_fix x.same_digest old.buffered old.tracked.kept p kind))

  -- CERTIFICATE
  -- those that wait again where a certificate is recorded: none of its own kind
  abbrev pub restored_with : RoundState G D → Certificate C D → Kind → List (Vote G D)
  restored_with old certificate kind =
      cond (is_kind kind (kind_certified certificate)) []
      (restored_by old (proposal_in (subject_certified certificate)) kind)

  pub record AfterCertificate (old : RoundState G D) (certificate : Certificate C D) (answer : Bool)
      (new : RoundState G D) : Type 0 where
    -- A notarization answers whether another proposal is selected than before.
    pub answer_is :
        answer
        ≡ (is_kind Notarization (kind_certified certificate)
        && not (same_selected x.same_digest (proposal_of old.buffered.selection)
        (proposal_of new.buffered.selection)))
    pub forwarded : new.forwarded ≡ old.forwarded
    -- Its kind is complete, so no vote of the kind is restored where its proposal is fixed.
    pub completed : VerifierState G D
    pub completes : CompletesKind x.same_digest old.buffered (kind_certified certificate) completed
    pub fixes : MayFix x.same_digest completed old.tracked.kept
        (proposal_in (subject_certified certificate)) new.buffered
    pub releases :
        (kind : Kind)
        → ReleasesKind x.same_digest old.tracked new.tracked (proposal_of new.buffered.selection)
        (is_kind (kind_certified certificate) kind && is_released_in x.mode true) kind

  -- CONSTRUCT
  abbrev pub is_ready_in : RoundState G D → Kind → Bool
  is_ready_in held kind =
      is_ready x.same_digest x.meaning.batchable (quorum_in x) held.buffered kind

  -- the kind whose certificate is tried, the first that is ready
  abbrev pub kind_tried : RoundState G D → Option Kind
  kind_tried held = first_ready (λ kind. is_ready_in held kind)

  -- a certificate for a proposal fixes it where none is fixed, and votes for others go
  abbrev pub Fixes : VerifierState G D → Option (Proposal D) → VerifierState G D → Type 0
  Fixes old None new = new ≡ old
  Fixes old (Some p) new =
      SetsProposal x.same_digest old (updated old.selection (FixedProposal p)) new

  -- What a certificate of a kind changes once its votes are gone: the proposal, and what is kept of
  -- the kind.
  pub record Settles (old : RoundState G D) (kind : Kind) (proposal : Option (Proposal D))
      (new : RoundState G D) : Type 0 where
    pub buffered : Fixes old.buffered proposal new.buffered
    pub tracked : (other : Kind) → ReleasesKind x.same_digest old.tracked new.tracked proposal
        (is_kind kind other && is_released_in x.mode true) other
    pub forwarded : new.forwarded ≡ old.forwarded

  abbrev pub AfterGiven : RoundState G D → Kind → Option (Certificate C D) → RoundState G D → Type 0
  AfterGiven old kind None new = new ≡ old
  AfterGiven old kind (Some certificate) new =
      Settles old kind (proposal_in (subject_certified certificate)) new

  -- An attempt with the votes of a kind, and what its certificate changes.
  pub record TriesHeld (old : RoundState G D) (kind : Kind) (before : Stream)
      (batch : Batch (Certificate C D)) (new : RoundState G D) (after : Stream) : Type 0 where
    pub left : VerifierState G D
    pub tries : TriesKind x.meaning x.number (quorum_in x) old.buffered kind before batch after left
    pub given : AfterGiven (record old { buffered = left }) kind batch.certificate new

  pub record AfterBatch (old : RoundState G D) (before : Stream) (batch : Batch (Certificate C D))
      (new : RoundState G D) (after : Stream) : Type 0 where
    pub kind : Kind
    pub first : kind_tried old ≡ Some kind
    pub tried : TriesHeld old kind before batch new after

  pub record AfterNone (old : RoundState G D) (before : Stream) (new : RoundState G D)
      (after : Stream) : Type 0
    where
      pub none : kind_tried old ≡ None
      pub held : new ≡ old
      pub stream : after ≡ before

  abbrev pub AfterConstruct : RoundState G D → Stream → Option (Batch (Certificate C D))
      → RoundState G D
      → Stream → Type 0
  AfterConstruct old before None new after = AfterNone old before new after
  AfterConstruct old before (Some batch) new after = AfterBatch old before batch new after
