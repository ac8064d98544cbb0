-- What a validator takes in from its disk, as it begins.
use Rattle.std.specs.Prelude.{◌≡◌, ◌++◌, ℕ, List, Contains, Ok, Some}
use Rattle.std.specs.List.{slice_get}
use Rattle.batcher.specs.messages.Certificate.{Certificate}
use Rattle.batcher_bytes.specs.Format.{Format, whole}
use Rattle.batcher_bytes.specs.Messages.{versioned}
use Rattle.batcher_journal.specs.Records.{Certified}
use Rattle.batcher_node.specs.Nodes.{NodeConfig}
use Rattle.batcher_validator.specs.Histories.{only_took}
use Rattle.batcher_validator.specs.Running.{ForEachRun, IsRunning, ValidatorView}

-- It takes certificates in: each of these, and no others.
pub record Recalls {S D K G C L : Type 0} (x : NodeConfig D K G C)
    (IsThere : Certificate C D → Type 0) (old new : ValidatorView S G D L C) : Type 0 where
  pub held : List (Certificate C D)
  pub has_all : (c : Certificate C D) → IsThere c → Contains held c
  pub no_others : (c : Certificate C D) → Contains held c → IsThere c
  pub running : ForEachRun x old (λ past earlier. IsRunning x (only_took held ++ past) earlier new)

-- what is kept at this place has the bytes of a certificate
pub record IsAtPlace {C D : Type 0} (format : Format (Certificate C D)) (kept : List Certified)
    (i : ℕ) (c : Certificate C D) : Type 0 where
  pub one : Certified
  pub there : slice_get kept i ≡ Some one
  pub decoded : whole (versioned format) one.1 ≡ Ok c
