-- A round's tracker and verifier, as the contracts of their owner see them.
use Rattle.std.specs.Prelude.{◌≡◌, ◌<◌, ◌&&◌, ℕ, true, false, not, Result, OnErr, length}
use Rattle.batcher_types.specs.declared.messages.Kind.{Kind}
use Rattle.batcher_types.specs.declared.messages.Vote.{Vote}
use Rattle.batcher_types.specs.Items.{place_of}
use Rattle.batcher_types.specs.Meaning.{Meaning}
use Rattle.batcher_types.specs.Votes.{kind_of, signer_of, subject_of, round_in}
use Rattle.batcher_votes.specs.declared.votes.Outcome.{Outcome}
use Rattle.batcher_votes.specs.VerifierSteps.{MayAddVote, selected_in}
use Rattle.batcher_votes.specs.RoundState.{TrackerView, of_kind, VerifierView, RoundView}
use Rattle.batcher_votes.specs.RoundState.{SameVerifier, SameTracker, round_of}
use Rattle.batcher_votes.specs.Soundness.{KeepsAllRoom}
use Rattle.batcher_votes.specs.TrackerSteps.{RecordsKind}
use Rattle.batcher_histories.specs.Admissions.{admission_of}
use Rattle.batcher_histories.specs.Config.{Config}
use Rattle.batcher_histories.specs.Steps.{admission_by}
use Rattle.batcher_round.specs.Observations.{observed_like}

-- what is known of each signer, and what waits for a certificate
pub record BallotsView (S G D : Type 0) : Type 0 where
  pub tracker : TrackerView G D
  pub verifier : VerifierView S G D

module _ {S G D : Type 0} where
  -- what a round with these votes is, before it forwards a proposal
  abbrev pub round_with : BallotsView S G D → RoundView S G D
  round_with ballots = round_of ballots.verifier ballots.tracker

  -- what is held doesn't change
  abbrev pub SameRoundState : BallotsView S G D → BallotsView S G D → Type 0
  SameRoundState old new =
      (new.verifier.holds ≡ old.verifier.holds) × (new.tracker.holds ≡ old.tracker.holds)

  -- A call changes nothing of them but what is held and the room for more, and the room alone where
  -- it is refused.
  abbrev pub AllOrNothing : {A E : Type 0} → Result A E → BallotsView S G D → BallotsView S G D
      → Type 0
  AllOrNothing result old new =
      (SameVerifier old.verifier new.verifier) × (SameTracker old.tracker new.tracker)
      × OnErr result (SameRoundState old new)

  -- nothing of a verifier changes but its room, which stays
  abbrev pub GrowsVerifier : VerifierView S G D → VerifierView S G D → Type 0
  GrowsVerifier old new =
      (SameVerifier old new) × (KeepsAllRoom old new) × (new.holds ≡ old.holds)

  -- the vote is of the round, and of a participant whose votes are recorded at this place
  abbrev pub IsVoteAt : {K C : Type 0} → Meaning D K G C → BallotsView S G D → Result ℕ ℕ
      → Vote G D → Type 0
  IsVoteAt m ballots place vote =
      (place ≡ place_of ballots.tracker.signers (signer_of vote))
      × (signer_of vote < length m.participants)
      × (round_in (subject_of vote) ≡ ballots.verifier.number)

-- nothing of a tracker changes but its room
abbrev pub GrowsTracker : {G D : Type 0} → TrackerView G D → TrackerView G D → Type 0
GrowsTracker old new =
    (SameTracker old new) × (new.signers ≡ old.signers) × (new.holds ≡ old.holds)

-- A vote is recorded, which is answered by what came of it. One that is added and kept in full
-- waits for its certificate.
abbrev pub Admits : {D K G C S : Type 0} → Config D K G C → BallotsView S G D → BallotsView S G D
    → Vote G D → Outcome → Type 0
Admits x old new vote outcome =
    (admission_of outcome vote
    ≡ admission_by x (selected_in old.verifier.holds) (observed_like old.tracker.holds vote) vote)
    × ((kind : Kind) → RecordsKind x.same_digest old.tracker.holds new.tracker.holds
    (selected_in old.verifier.holds) true vote kind)
    × MayAddVote x.same_digest
    ((admission_of outcome vote).added && not (of_kind old.tracker.holds.compacted (kind_of vote)))
    old.verifier.holds vote false new.verifier.holds
