-- One view at most is next.
use Rattle.batcher_node.proofs.Words.{◌≡◌, ◌<◌, ℕ, false, List, sym, ◌∙◌, subst, arith, IfSome, false≢true, IsNext, Slot}

module _ {R : Type 0} where
  not_both : (rounds : List (ℕ × Slot R)) (one other : ℕ) → IsNext rounds one
      → IsNext rounds other → one < other → ⊥
  not_both rounds one other next after below =
      let at = next.changed in
      let rests = subst (λ o. IfSome o (λ slot. slot.changed ≡ false)) at.there (after.lowest one below) in
      false≢true (sym rests ∙ at.changed)

  pub one_next : (rounds : List (ℕ × Slot R)) (one other : ℕ) → IsNext rounds one
      → IsNext rounds other → one ≡ other
  one_next rounds one other next after =
      let first : one < other → ⊥ = not_both rounds one other next after in
      let second : other < one → ⊥ = not_both rounds other one after next in
      grind (arith, first, second)
