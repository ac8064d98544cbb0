-- How many rounds a window can have.
use Rattle.batcher_node.proofs.Words.{◌≡◌, ◌≤◌, ◌<◌, ◌+◌, ℕ, Bool, true, false, cond, List, [], ◌∷◌, length, Option, Some, None, refl, ap, ◌∙◌, subst, arith}
use Rattle.batcher_node.proofs.Words.{IfSome, nat_lt, nat_cmp, is_eq, is_gt, Less, Equal, Greater, nat_cmp_is, is_at, keys_of, AllByRecursion}
use Rattle.batcher_node.proofs.Words.{IsStrictlySortedBy, true≢false, sorted_head, sorted_tail, RoundView, Epoch, Slot, Window, contains, width, slot_at}
use Rattle.batcher_node.proofs.Words.{IsTended}
use Rattle.batcher_node.proofs.Finding.{at_itself}

less_by : (k y : ℕ) (a b : Bool) → nat_lt k y ≡ a → nat_lt y k ≡ b → nat_cmp k y ≡ Less → k < y
less_by k y true b is other less = grind (arith, is)
less_by k y false true is other less =
    absurd (true≢false (ap is_gt (nat_cmp_is k y Greater (grind (arith, other)) ∙ less)))
less_by k y false false is other less =
    absurd (true≢false (ap is_eq (nat_cmp_is k y Equal (grind (arith, is, other)) ∙ less)))

pub less_is : (k y : ℕ) → nat_cmp k y ≡ Less → k < y
less_is k y less = less_by k y (nat_lt k y) (nat_lt y k) refl refl less

-- the numbers above one that is no less than lo are above lo
raised : (ks : List ℕ) (k lo hi : ℕ) → lo ≤ k → AllByRecursion (λ y. nat_cmp k y ≡ Less) ks
    → AllByRecursion (λ y. (lo ≤ y) × (y ≤ hi)) ks
    → AllByRecursion (λ y. (lo + 1 ≤ y) × (y ≤ hi)) ks
raised [] k lo hi from above within = tt
raised (y ∷ ks) k lo hi from above within =
    let more = less_is k y above.0 in
    ((omega (arith, more, from), within.0.1), raised ks k lo hi from above.1 within.1)

-- ascending numbers from lo to hi
pub count_bound : (ks : List ℕ) (lo hi : ℕ) → IsStrictlySortedBy nat_cmp ks
    → AllByRecursion (λ k. (lo ≤ k) × (k ≤ hi)) ks → lo ≤ hi + 1 → length ks + lo ≤ hi + 1
count_bound [] lo hi sorted within bound = omega (arith, bound)
count_bound (k ∷ ks) lo hi sorted within bound =
    let from = within.0.0 in
    let to = within.0.1 in
    let rest = count_bound ks (lo + 1) hi (sorted_tail nat_cmp k ks sorted)
    (raised ks k lo hi from (sorted_head nat_cmp k ks sorted) within.1) (omega (arith, from, to)) in
    grind (arith, rest)

module _ {X : Type 0} where
  tail_if : (Q : Type 0) (t : Bool) (first : X) (o : Option X)
      → IfSome (cond t (Some first) o) (λ _. Q)
      → IfSome o (λ _. Q)
  tail_if Q t first None h = tt
  tail_if Q true first (Some x) h = h
  tail_if Q false first (Some x) h = h

  -- what holds at each key that is found holds of each key
  each_key : (P : ℕ → Type 0) (es : List (ℕ × X)) → ((q : ℕ) → IfSome (slot_at es q) (λ _. P q))
      → AllByRecursion P (keys_of es)
  each_key P [] h = tt
  each_key P (d ∷ es) h = (
    subst (λ t. IfSome (cond t (Some d.1) (slot_at es d.0)) (λ _. P d.0)) (at_itself d.0) (h d.0),
    each_key P es (λ q. tail_if (P q) (is_at (nat_cmp q) d.0) d.1 (slot_at es q) (h q)),
  )

  length_keys : (es : List (ℕ × X)) → length (keys_of es) ≡ length es
  length_keys [] = refl
  length_keys (d ∷ es) = grind (arith, length_keys es)

within : (w : Window) (view : ℕ) → contains w view ≡ true
    → (w.finalized ≤ view) × (view ≤ w.current + w.ahead)
within w view is = (grind (arith, is), grind (arith, is))

-- A node keeps no more rounds than its window has views.
pub few_rounds : {S G D : Type 0} (participants : ℕ) (scheme : S) (epoch : Epoch) (window : Window)
    (rounds : List (ℕ × Slot (RoundView S G D))) → IsStrictlySortedBy nat_cmp (keys_of rounds)
    → IsTended participants scheme epoch window rounds → length rounds ≤ width window
few_rounds {S = S} {G = G} {D = D} participants scheme epoch window rounds sorted tended =
    let ordered = tended.ordered in
    let bound = count_bound (keys_of rounds) window.finalized (window.current + window.ahead) sorted
    (each_key (λ k. (window.finalized ≤ k) × (k ≤ window.current + window.ahead)) rounds
    (λ q. held_within q (slot_at rounds q) (tended.own q)))
    (omega (arith, ordered)) in
    let same = length_keys rounds in
    grind (arith, bound, same) where
      held_within : (q : ℕ) (o : Option (Slot (RoundView S G D)))
          → IfSome o (λ slot. (slot.round.scheme ≡ scheme)
          × ((slot.round.number ≡ record { epoch = epoch; view = record { 0 = q } })
          × (contains window q ≡ true)))
          → IfSome o (λ _. (window.finalized ≤ q) × (q ≤ window.current + window.ahead))
      held_within q None h = tt
      held_within q (Some slot) h = within window q h.1.1
