-- What the next construction of a node looks at.
use Rattle.std.specs.Prelude.{◌≡◌, ℕ, List, Option, Some, Result, IfOk, IfSome, is_some, true}
use Rattle.std.specs.declared.alloc.AllocError.{AllocError}
use Rattle.batcher.specs.messages.Attestation.{Attestation}
use Rattle.batcher.specs.Meaning.{Meaning}
use Rattle.batcher.specs.messages.Kind.{Kind}
use Rattle.batcher.specs.messages.Subject.{Subject}
use Rattle.batcher.specs.Config.{Config}
use Rattle.batcher.specs.RoundState.{RoundView}
use Rattle.batcher.specs.Verdicts.{BatchIsAssembled, LooksAtKind, LooksAtNext}
use Rattle.batcher.specs.Verifiers.{IfGiven}
use Rattle.batcher_node.specs.declared.node.Construction.{Construction}
use Rattle.batcher_node.specs.declared.slot.Slot.{Slot}
use Rattle.batcher_node.specs.Nodes.{IsNext, slot_at}

module _ {S D K G C : Type 0} (round_config : RoundView S G D → Config D K G C)
    (at : Option (Slot (RoundView S G D))) where
  -- There is a round, whose next construction is about the subject and looks at these pending
  -- attestations.
  pub record LooksAtThere (subject : Subject D) (list : List (Attestation G)) : Type 0 where
    pub slot : Slot (RoundView S G D)
    pub there : at ≡ Some slot
    pub looks : LooksAtNext (round_config slot.round) slot.round.holds subject list

  -- There is a round in which the kind is ready. An attempt at it is about the subject, and looks
  -- at these pending attestations.
  pub record LooksAtKindThere (kind : Kind) (subject : Subject D) (list : List (Attestation G))
      : Type 0 where
    pub slot : Slot (RoundView S G D)
    pub there : at ≡ Some slot
    pub looks : LooksAtKind (round_config slot.round) slot.round.holds kind subject list

-- What verdicts on a list give: the construction of the next view, where that looks at this list.
-- Its batch is there, and its certificate is made of attestations that attest.
pub record GivesByVerdicts {S D K G C : Type 0} (meaning : Meaning D K G C)
    (round_config : RoundView S G D → Config D K G C) (rounds : List (ℕ × Slot (RoundView S G D)))
    (subject : Subject D) (list : List (Attestation G))
    (result : Result (Option (Construction C D)) AllocError) : Type 0 where
  pub gives : IfGiven result (λ one. is_some one.batch ≡ true)
  pub assembled : IfGiven result (λ one. IfSome one.batch (BatchIsAssembled meaning))
  pub next : IfGiven result (λ one. IsNext rounds one.view.0)
  pub looks_at :
      IfGiven result (λ one. LooksAtThere round_config (slot_at rounds one.view.0) subject list)
  pub not_stale :
      (view : ℕ) → IsNext rounds view
      → LooksAtThere round_config (slot_at rounds view) subject list
      → IfOk result (λ given. is_some given ≡ true)
