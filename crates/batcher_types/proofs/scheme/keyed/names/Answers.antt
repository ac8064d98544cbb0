use Rattle.batcher_types.proofs.Words.{◌≡◌, ◌<◌, length, ℕ, Bool, false, List, get_or, arith, ap, refl, Err, IsDistinct, nat_tests, IsDistinct-from_apart}
use Rattle.batcher_types.proofs.Words.{All-permutation, length_permutation, Name, SetFault, Duplicate, TooMany}
use Rattle.batcher_types.proofs.scheme.keyed.names.Goals as goal

-- names that are their own places are distinct
distinct : (E : Name → Name → Bool)
    → ((i j : ℕ) → i < j → E (record { 0 = i }) (record { 0 = j }) ≡ false) → (names : List Name)
    → ((k : ℕ) (d : Name) → k < length names → get_or names k d ≡ record { 0 = k })
    → IsDistinct E names
distinct E differ names each =
    IsDistinct-from_apart E names (λ i j d before below. rw (each i d (omega arith), each j d below) (differ i j before))

neither : (fault : SetFault) → (fault ≡ Duplicate → ⊥) → (fault ≡ TooMany → ⊥) → ⊥
neither Duplicate one other = one refl
neither TooMany one other = other refl

pub unreachable-requires : goal.unreachable-requires
unreachable-requires c =
    neither c.in-Err.field-0
    (λ e. c.in-Err.ensures.duplicate (ap Err e) (distinct _ (λ i j before. grind (arith, nat_tests)) c.loop-number.names.items
    (λ k d below. c.loop-number.invariant.each k d (omega (arith, c.loop-number.names.ok.0)))))
    (λ e. let many = c.in-Err.ensures.too_many.0 (ap Err e) in omega (arith, c.loop-number.names.ok.0))

pub returns-clause-count : goal.returns-clause-count
returns-clause-count c = omega (arith, c.loop-number.names.ok.0, length_permutation c.loop-number.names.items c.in-Ok.set c.in-Ok.ensures.keys)

pub returns-clause-below : goal.returns-clause-below
returns-clause-below c =
    All-permutation (λ (name : Name). name.0 < c.args.count) c.loop-number.names.items c.in-Ok.set c.in-Ok.ensures.keys
    (λ k d below. let place : k < c.loop-number.number = omega (arith, c.loop-number.names.ok.0) in rw (c.loop-number.invariant.each k d place) (omega arith))
