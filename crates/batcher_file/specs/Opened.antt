-- What is at a gate.
use Rattle.std.specs.Prelude.{◌≡◌, ℕ, List, ◌∷◌}
use Rattle.batcher_file.specs.Frames.{AreTwoFrames, IsFrame, closed_gate, open_gate}
use Rattle.batcher_file.specs.declared.contents.Gate.{Gate}
use Rattle.batcher_file.specs.declared.contents.Gate.TheVariants.{Closed, Damaged, Open}

module _ (due : ℕ) (bytes : List ℕ) where
  -- an open gate with the frame that is due behind it, and what follows
  pub record IsOpenGate (inside after : List ℕ) : Type 0 where
    pub rest : List ℕ
    pub parts : bytes ≡ open_gate ∷ rest
    pub framed : IsFrame due inside after rest

  -- a closed gate without two frames behind it
  pub record IsClosed : Type 0 where
    pub rest : List ℕ
    pub parts : bytes ≡ closed_gate ∷ rest
    pub alone : AreTwoFrames due rest → ⊥

  abbrev pub GateOpens : Gate → Type 0
  GateOpens (Open inside after) = IsOpenGate inside.now after.now
  GateOpens Closed = IsClosed
  GateOpens Damaged = ((inside after : List ℕ) → IsOpenGate inside after → ⊥) × (IsClosed → ⊥)
