-- In which views a participant has voted to finalize or to nullify.
use Rattle.std.specs.Prelude.{◌≡◌, ◌<◌, ◌≤◌, ◌⊎◌, ℕ}
use Rattle.batcher.specs.messages.Proposal.{Proposal}
use Rattle.batcher.specs.messages.Subject.TheVariants.{Finalize, Nullify}
use Rattle.batcher.specs.positions.Epoch.{Epoch}
use Rattle.batcher.specs.positions.Round.{Round}
use Rattle.batcher_agreement.specs.Policy.{Conduct, HasVoted}
use Rattle.batcher_node.specs.Windows.{numbered}
use Rattle.batcher_validator.specs.declared.decided.Decided.{Decided}

module _ {D : Type 0} where
  -- It has voted to nullify the round, or to finalize a proposal of it: so it finalizes no other.
  abbrev pub HasDecided : Conduct D → Round → Type 0
  HasDecided past number =
      HasVoted past (Nullify number)
      ⊎ ((p : Proposal D) × ((p.round ≡ number) × HasVoted past (Finalize p)))

  -- It has in each of these views.
  abbrev pub AreDecided : Conduct D → Epoch → Decided → Type 0
  AreDecided past epoch decided =
      (view : ℕ) → decided.first ≤ view → view < decided.end
      → HasDecided past (numbered epoch view)
