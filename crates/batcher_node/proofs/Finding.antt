-- Options, and a look-up at a key itself.
use Rattle.batcher_node.proofs.Words.{◌≡◌, ◌≢◌, ℕ, true, Some, None, refl, sym, ap, is_some, unwrap_or, nat_cmp, is_eq, nat_cmp_is, Equal, is_at, true≢false}

pub some_is : {X : Type 0} {x : X} → Some x ≢ None
some_is h = true≢false (ap is_some h)

pub some_same : {X : Type 0} {a b : X} → Some a ≡ Some b → a ≡ b
some_same {a = a} h = ap (λ o. unwrap_or o a) h

pub at_itself : (view : ℕ) → is_at (nat_cmp view) view ≡ true
at_itself view = ap is_eq (sym (nat_cmp_is view view Equal refl))
