use Rattle.batcher_node.proofs.Words.{◌≡◌, ◌<◌, ◌≤◌, ◌+◌, ◌==◌, ℕ, Bool, true, false, cond, List, Option, Some, None, refl, subst, arith, IfSome, IfNone}
use Rattle.batcher_node.proofs.Words.{heap_items, Reverse, nat_tests, times}
use Rattle.batcher_node.proofs.due.Due.rest.Goals as goal

-- The lowest view that is taken away is the lowest that is listed.
taken : (o : Option ℕ) (old new : List (Reverse ℕ))
    → IfSome o (λ v. (other : ℕ) → times old other ≡ cond (v == other) 1 0 + times new other)
    → IfSome o (λ v. (lower : ℕ) → lower < v → times old lower ≡ 0)
    → IfNone o ((v : ℕ) → times old v ≡ 0) → (view : ℕ) → 1 ≤ times old view
    → ((lower : ℕ) → lower < view → times old lower ≡ 0)
    → (other : ℕ) → times old other ≡ cond (view == other) 1 0 + times new other
taken None old new less lowest none view some first other =
    let nothing = none view in absurd (omega (arith, some, nothing))
taken (Some v) old new less lowest none view some first other =
    let own = counted (v == v) refl (less v) in
    let below : v < view → ⊥ = λ h. let nothing = first v h in omega (arith, own, nothing) in
    let above : view < v → ⊥ = λ h. let nothing = lowest view h in omega (arith, some, nothing) in
    let same : v ≡ view = grind (arith, below, above) in
    subst (λ k. times old other ≡ cond (k == other) 1 0 + times new other) same (less other) where
      counted : (b : Bool) → (v == v) ≡ b → times old v ≡ cond b 1 0 + times new v → 1 ≤ times old v
      counted true e is = omega (arith, is)
      counted false e is = absurd (grind (arith, nat_tests, e))

pub returns-then-rests-clause-times : goal.returns-then-rests-clause-times
returns-then-rests-clause-times c =
    let taken_away = c.remove_lowest.ensures in
    rw c.if-rests.true (taken c.remove_lowest.result (heap_items c.args.self.now.views) (heap_items c.remove_lowest.new.self.views)
    taken_away.times taken_away.lowest taken_away.none)
