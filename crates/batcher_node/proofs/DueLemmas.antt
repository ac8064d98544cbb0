-- How often a view is in a heap of them.
use Rattle.batcher_node.proofs.Words.{◌≡◌, ◌<◌, ◌+◌, ◌==◌, ℕ, false, cond, List, [], ◌∷◌, refl, ap, sym, ◌∙◌, arith, sum_by, IsUpperBound, Reverse}
use Rattle.batcher_node.proofs.Words.{IsPermutation, nat_cmp, sum_by-IsPermutation, sum_by-cons, ge_from_not_lt, nat_tests, times}

times_sum : (xs : List (Reverse ℕ)) (view : ℕ)
    → times xs view ≡ sum_by (λ v. cond (v.0 == view) 1 0) xs
times_sum [] view = refl
times_sum (x ∷ xs) view =
    ap (λ n. cond (x.0 == view) 1 0 + n) (times_sum xs view)
    ∙ sym (sum_by-cons (λ v. cond (v.0 == view) 1 0) x xs)

-- in another order each is there as often
pub same_times : (xs ys : List (Reverse ℕ)) → IsPermutation xs ys → (view : ℕ)
    → times ys view ≡ times xs view
same_times xs ys moved view =
    times_sum ys view ∙ (sum_by-IsPermutation (λ v. cond (v.0 == view) 1 0) xs ys moved
    ∙ sym (times_sum xs view))

-- no view below the first one of a heap is there
pub none_below : (xs : List (Reverse ℕ)) (x : Reverse ℕ)
    → IsUpperBound (λ x y. nat_cmp y.0 x.0) x xs → (lower : ℕ) → lower < x.0
    → times xs lower ≡ 0
none_below [] x above lower below = refl
none_below (y ∷ ys) x above lower below =
    let more = ge_from_not_lt y.0 x.0 above.0 in
    let apart : (y.0 == lower) ≡ false = grind (arith, nat_tests, more, below) in
    rw (apart, none_below ys x above.1 lower below) refl
