-- Items of which the first were given to be sent.
use Rattle.std.specs.Prelude.{◌≡◌, ◌<◌, ◌≤◌, ⊤, ℕ, Bool, true, false, List, [], ◌∷◌, Contains}
use Rattle.std.specs.Prelude.{get_or, length, take}

-- Of the items up to an end the first ones aren't to be behind, and the others are.
pub record AreParted {X : Type 0} (is_behind : X → Bool) (items : List X) (end count : ℕ) : Type 0
  where
    pub within : count ≤ end
    pub stay : (i : ℕ) (x : X) → i < count → is_behind (get_or items i x) ≡ false
    pub others :
        (i : ℕ) (x : X) → count ≤ i → i < end → is_behind (get_or items i x) ≡ true

module _ {X Y : Type 0} (key : X → Y) where
  -- an item of this key
  pub record HasKey (items : List X) (y : Y) : Type 0 where
    pub item : X
    pub there : Contains items item
    pub is_of : key item ≡ y

  -- no two have one key
  abbrev pub AreDistinct : List X → Type 0
  AreDistinct [] = ⊤
  AreDistinct (x ∷ items) = (HasKey items (key x) → ⊥) × AreDistinct items

  -- The first of the items were given, and no others that aren't over.
  pub record AreFirst (is_over : Y → Bool) (WasGiven : Y → Type 0) (items : List X) (count : ℕ)
      : Type 0 where
    pub within : count ≤ length items
    pub were_given : (x : X) → Contains (take count items) x → WasGiven (key x)
    pub no_others :
        (y : Y) → WasGiven y → is_over y ≡ false → HasKey (take count items) y
