-- The numbers of a node's views are those with a slot.
use Rattle.batcher_node.proofs.Words.{◌≡◌, ◌==◌, ◌||◌, ◌∙◌, ℕ, Bool, true, false, cond, List, [], ◌∷◌, Option, Some, refl, ap, is_some, arith, list_any}
use Rattle.batcher_node.proofs.Words.{nat_cmp, is_at, keys_of, nat_tests, slot_at}

is_view : (view number : ℕ) → (number == view) ≡ is_at (nat_cmp view) number
is_view view number = grind (arith, nat_tests)

module _ {X : Type 0} where
  found_if : (t : Bool) (slot : X) (rest : Option X)
      → (t || is_some rest) ≡ is_some (cond t (Some slot) rest)
  found_if true slot rest = refl
  found_if false slot rest = refl

  pub listed : (es : List (ℕ × X)) (view : ℕ)
      → list_any (λ v. v == view) (keys_of es) ≡ is_some (slot_at es view)
  listed [] view = refl
  listed (e ∷ es) view =
      ap (λ t. t || list_any (λ v. v == view) (keys_of es)) (is_view view e.0)
      ∙ ap (λ t. is_at (nat_cmp view) e.0 || t) (listed es view)
      ∙ found_if (is_at (nat_cmp view) e.0) e.1 (slot_at es view)
