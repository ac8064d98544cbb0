-- The verdicts of one view of a node.
use Rattle.std.specs.Prelude.{◌≡◌, ℕ, List, Option, Some}
use Rattle.batcher_types.specs.declared.messages.Subject.{Subject}
use Rattle.batcher_votes.specs.RoundState.{PerKind, RoundView}
use Rattle.batcher_histories.specs.Config.{Config}
use Rattle.batcher_node.specs.declared.slot.Slot.{Slot}
use Rattle.batcher_node.specs.Nodes.{IsNext, slot_at}
use Rattle.batcher_round.specs.Next.{subject_next, pending_next}
use Rattle.batcher_verdicts.specs.Recorded.{Recorded, IsKnown}
use Rattle.batcher_verdicts.specs.Rounds.{AreComplete, recorded_of}

-- There is a round, and a verdict on each attestation that its next construction looks at.
pub record AreCompleteThere {S D K G C : Type 0} (round_config : RoundView S G D → Config D K G C)
    (at : Option (Slot (RoundView S G D))) (all : PerKind (Recorded G D)) (subject : Subject D)
    : Type 0 where
  pub slot : Slot (RoundView S G D)
  pub there : at ≡ Some slot
  pub complete : AreComplete (round_config slot.round) slot.round.holds all subject

-- The next view has a round, whose next construction is about the subject, and on so many of the
-- attestations that it looks at, from the first on, a verdict is recorded.
pub record KnownThere {S D K G C : Type 0} (round_config : RoundView S G D → Config D K G C)
    (rounds : List (ℕ × Slot (RoundView S G D))) (all : PerKind (Recorded G D))
    (subject : Subject D) (n : ℕ) : Type 0 where
  pub view : ℕ
  pub next : IsNext rounds view
  pub slot : Slot (RoundView S G D)
  pub there : slot_at rounds view ≡ Some slot
  pub about : subject_next (round_config slot.round) slot.round.holds ≡ Some subject
  pub known : IsKnown (recorded_of all subject) subject
      (pending_next (round_config slot.round) slot.round.holds) n
