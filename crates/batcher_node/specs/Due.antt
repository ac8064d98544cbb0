-- Which views are listed as changed.
use Rattle.std.specs.Prelude.{◌≡◌, ◌≤◌, ◌==◌, ◌+◌, ℕ, cond, List, [], ◌∷◌, length, Option, Some}
use Rattle.std.specs.Prelude.{None}
use Rattle.std.specs.Ordering.{nat_cmp}
use Rattle.std.specs.declared.cmp.Ordering.{Ordering}
use Rattle.std.specs.declared.cmp.Reverse.{Reverse}
use Rattle.batcher_node.specs.declared.slot.Slot.{Slot}
use Rattle.batcher_node.specs.Nodes.{slot_at}

-- the order of the heap, by which its greatest is the lowest view
abbrev pub later : Reverse ℕ → Reverse ℕ → Ordering
later x y = nat_cmp y.0 x.0

-- how often a view is among these
abbrev pub times : List (Reverse ℕ) → ℕ → ℕ
times [] view = 0
times (v ∷ views) view = cond (v.0 == view) 1 0 + times views view

-- a view is listed once where it changed since it was found to rest
abbrev pub times_due : {R : Type 0} → Option (Slot R) → ℕ
times_due None = 0
times_due (Some slot) = cond slot.changed 1 0

-- Just the views that changed are listed, each once, and there is room for all that have a round.
pub record ListsChanged {R : Type 0} (views : List (Reverse ℕ)) (capacity : ℕ)
    (rounds : List (ℕ × Slot R)) : Type 0 where
  pub listed : (view : ℕ) → times views view ≡ times_due (slot_at rounds view)
  pub room : length rounds ≤ capacity
