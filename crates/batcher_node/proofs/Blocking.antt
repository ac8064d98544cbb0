-- Why participants are blocked, by their indices.
use Rattle.batcher_node.proofs.Words.{◌≡◌, ◌≤◌, ◌<◌, ◌==◌, ℕ, zero, suc, Bool, true, false, cond, List, [], ◌∷◌, Option, Some, None, refl, sym, ap, ◌∙◌, set}
use Rattle.batcher_node.proofs.Words.{length, is_some, arith, option_or, true≢false, Cause, cause_at}
use Rattle.batcher_node.proofs.Answering.{or_none}

apart_beyond : (n p i : ℕ) → n ≤ p → i < n → (p == i) ≡ false
apart_beyond n p i beyond within = grind (arith, beyond, within)

below_more : (p i : ℕ) → (suc p == suc i) ≡ (p == i)
below_more p i = by_same (p == i) refl where
  by_same : (b : Bool) → (p == i) ≡ b → (suc p == suc i) ≡ b
  by_same true same = grind (arith, same)
  by_same false same = grind (arith, same)

flipped : (i : ℕ) → (suc i == 0) ≡ (0 == suc i)
flipped i = grind arith

none_is : (o : Option Cause) → is_some o ≡ false → o ≡ None
none_is None is = refl
none_is (Some c) is = absurd (true≢false is)

-- who isn't blocked is from then on
pub now_blocked : (blocked : List (Option Cause)) (p i : ℕ) (more : Cause)
    → is_some (cause_at blocked p) ≡ false → p < length blocked
    → cause_at (set blocked p (Some more)) i
    ≡ option_or (cause_at blocked i) (cond (p == i) (Some more) None)
now_blocked [] p i more free within = absurd (grind (arith, within))
now_blocked (c ∷ blocked) zero zero more free within =
    sym (ap (λ c. option_or c (Some more)) (none_is c free))
now_blocked (c ∷ blocked) zero (suc i) more free within =
    or_none (cause_at blocked i)
    ∙ ap (λ b. option_or (cause_at blocked i) (cond b (Some more) None))
    (sym (apart_beyond (suc i) (suc i) zero (grind arith) (grind arith)) ∙ flipped i)
now_blocked (c ∷ blocked) (suc p) zero more free within =
    or_none c ∙ ap (λ b. option_or c (cond b (Some more) None))
    (sym (apart_beyond (suc p) (suc p) zero (grind arith) (grind arith)))
now_blocked (c ∷ blocked) (suc p) (suc i) more free within =
    now_blocked blocked p i more free (grind (arith, within))
    ∙ ap (λ b. option_or (cause_at blocked i) (cond b (Some more) None)) (sym (below_more p i))
