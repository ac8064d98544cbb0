-- A list of items in ascending order of their signers, as a map from signers.
use Rattle.std.specs.Prelude.{◌≡◌, ◌<◌, ◌≤◌, ℕ, Bool, nat_eq, nat_lt, ◌&&◌, ◌==◌, is_none}
use Rattle.std.specs.Prelude.{if◌then◌else◌, List, length, insert, slice_index_or, Option, Some}
use Rattle.std.specs.Prelude.{None, Result, Ok, Err, find, map}
use Rattle.std.specs.List.{list_any}
use Rattle.batcher_types.specs.Ascending.{insert_by}
use Rattle.batcher_types.specs.Lists.{count}

-- What a map shows: the bound on signers, the items in the order of their signers, and for how many
-- more there is room.
pub record Items (T : Type 0) : Type 0 where
  pub participants : ℕ
  pub items : List T
  pub room : ℕ

-- the item of a signer
abbrev pub item_of : {T : Type 0} → (T → ℕ) → List T → ℕ → Option T
item_of signer items i = find (λ x. nat_eq (signer x) i) items

-- whether the item's signer is below the bound and has none yet
abbrev pub is_new : {T : Type 0} → (T → ℕ) → Items T → T → Bool
is_new signer m item =
    nat_lt (signer item) m.participants && is_none (item_of signer m.items (signer item))

-- the items, with this one in the place of its signer's
unfoldable pub replace_by : {T : Type 0} → (T → ℕ) → T → List T → List T
replace_by signer item items = map (λ x. if nat_eq (signer x) (signer item) then item else x) items

-- Where a signer is among ascending ones, or if it isn't there where it would be: after as many as
-- are lower.
unfoldable pub place_of : List ℕ → ℕ → Result ℕ ℕ
place_of signers i =
    if list_any (λ s. s == i) signers then Ok (count (λ s. nat_lt s i) signers) else Err
    (count (λ s. nat_lt s i) signers)

module _ {T : Type 0} (signer : T → ℕ) (items : List T) (i : ℕ) where
  -- The item of a signer is at this place.
  abbrev pub IsPlaced : ℕ → Type 0
  IsPlaced place =
      (place < length items)
      × ((d : T) → item_of signer items i ≡ Some (slice_index_or items place d))

  -- The signer has no item, and one that is inserted at this place is in the order of the signers.
  abbrev pub GoesTo : ℕ → Type 0
  GoesTo place =
      (place ≤ length items) × (item_of signer items i ≡ None)
      × ((x : T) → signer x ≡ i → insert items place x ≡ insert_by signer x items)
