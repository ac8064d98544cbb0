-- Bytes of which one has changed.
use Rattle.std.specs.Prelude.{◌≡◌, ◌⊎◌, ◌++◌, ℕ, List, ◌∷◌}
use Rattle.batcher_bytes.specs.Format.{AreBytes}

-- the same bytes, but for one
pub record IsChanged (By : ℕ → ℕ → Type 0) (old new : List ℕ) : Type 0 where
  pub front : List ℕ
  pub was : ℕ
  pub is : ℕ
  pub back : List ℕ
  pub before : old ≡ front ++ was ∷ back
  pub after : new ≡ front ++ is ∷ back
  pub by : By was is
  pub old_bytes : AreBytes old
  pub new_bytes : AreBytes new

abbrev pub IsNear : (ℕ → ℕ → Type 0) → List ℕ → List ℕ → Type 0
IsNear By old new = (old ≡ new) ⊎ IsChanged By old new
