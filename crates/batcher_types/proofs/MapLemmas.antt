-- When a map takes an item.
use Rattle.batcher_types.proofs.Words.{◌≡◌, ◌<◌, ℕ, true, false, nat_lt, [], arith, Some, None, nat_tests, Items, item_of, is_new}
use Rattle.batcher_types.specs.Ascending.{IsAscending}

pub ascending-empty : {T : Type 0} (key : T → ℕ) → IsAscending key []
unfolding IsAscending
ascending-empty key = tt

pub is_new-absent : {T : Type 0} (key : T → ℕ) (m : Items T) (item : T) → key item < m.participants
    → item_of key m.items (key item) ≡ None → is_new key m item ≡ true
is_new-absent key m item below none = let yes : nat_lt (key item) m.participants ≡ true = grind (arith, nat_tests) in rw (yes, none)

pub is_new-present : {T : Type 0} (key : T → ℕ) (m : Items T) (item x : T) → key item
    < m.participants → item_of key m.items (key item) ≡ Some x → is_new key m item ≡ false
is_new-present key m item x below some = let yes : nat_lt (key item) m.participants ≡ true = grind (arith, nat_tests) in rw (yes, some)
