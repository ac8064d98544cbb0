-- Counts, and numbers below a bound that are among those of lists.
use Rattle.batcher_evidence.proofs.Words.{◌≡◌, ◌≤◌, ◌+◌, ◌==◌, ◌&&◌, ◌||◌, ℕ, zero, suc, Bool, true, false, cond, nat_lt, List, [], ◌∷◌, length, filter, refl}
use Rattle.batcher_evidence.proofs.Words.{arith, ⊎_elim, list_any, list_all, cases_Bool, and_from, nat_tests, count_same, count-false, count_covers, count_none}
use Rattle.batcher_evidence.proofs.Words.{below_or_at, below_zero, at_most_one, all_counted, count, EachOnce, count_below}

at_or_below : (m n : ℕ) → cond (m == n) 1 0 + cond (nat_lt m n) 1 0 ≤ cond (nat_lt m (suc n)) 1 0
at_or_below m n = grind (arith, nat_tests)

-- numbers below n
module _ (p q : ℕ → Bool) where
  pub below_more : ((i : ℕ) → p i ≡ true → q i ≡ true) → (n : ℕ) → count_below n p ≤ count_below n q
  below_more h zero = omega arith
  below_more h (suc n) = omega (arith, one (p n) (q n) (h n), below_more h n)
    where
      one : (b c : Bool) → (b ≡ true → c ≡ true) → cond b 1 0 ≤ cond c 1 0
      one true c h = rw (h refl) (omega arith)
      one false c h = omega arith

  -- two sets of them share what they are more than n together
  pub below_both : (n : ℕ) → count_below n p + count_below n q ≤ count_below n (λ i. p i && q i) + n
  below_both zero = omega arith
  below_both (suc n) = omega (arith, one (p n) (q n), below_both n)
    where
      one : (b c : Bool) → cond b 1 0 + cond c 1 0 ≤ cond (b && c) 1 0 + 1
      one true true = omega arith
      one true false = omega arith
      one false true = omega arith
      one false false = omega arith

module _ {X : Type 0} where
  pub filter_passes : (p : X → Bool) (xs : List X) → list_all p (filter p xs) ≡ true
  filter_passes p [] = refl
  filter_passes p (x ∷ xs) = one (p x) refl (filter_passes p xs)
    where
      one :
          (b : Bool) → p x ≡ b → list_all p (filter p xs) ≡ true
          → list_all p (cond b (x ∷ filter p xs) (filter p xs)) ≡ true
      one true e rest = and_from _ _ e rest
      one false e rest = rest

-- one number is at most one of those below n
below_one : (m n : ℕ) → count_below n (λ i. m == i) ≤ cond (nat_lt m n) 1 0
below_one m zero = omega arith
below_one m (suc n) = omega (arith, at_or_below m n, below_one m n)

below_none : (n : ℕ) → count_below n (λ _. false) ≡ 0
below_none zero = refl
below_none (suc n) = omega (arith, below_none n)

below_or :
    (p q : ℕ → Bool) (n : ℕ)
    → count_below n (λ i. p i || q i) ≤ count_below n p + count_below n q
below_or p q zero = omega arith
below_or p q (suc n) = omega (arith, one (p n) (q n), below_or p q n)
  where
    one : (b c : Bool) → cond (b || c) 1 0 ≤ cond b 1 0 + cond c 1 0
    one true c = omega arith
    one false true = omega arith
    one false false = omega arith

module _ {X : Type 0} (number : X → ℕ) where
  -- whether an element has the number
  abbrev pub has_number : List X → ℕ → Bool
  has_number xs i = list_any (λ v. number v == i) xs

  one_at :
      (xs : List X) → EachOnce number xs → (i : ℕ)
      → count (λ v. number v == i) xs ≤ cond (has_number xs i) 1 0
  one_at xs once i =
      ⊎_elim
      (λ yes. rw yes (once i))
      (λ no. rw no (omega (arith, count_none (λ v. number v == i) xs no)))
      (cases_Bool (has_number xs i))

  few_numbers :
      (n : ℕ) (xs : List X) → EachOnce number xs
      → count (λ v. nat_lt (number v) n) xs ≤ count_below n (has_number xs)
  few_numbers zero xs once =
      omega (arith, count_same (λ v. nat_lt (number v) 0) (λ _. false) xs (λ v. below_zero (number v)), count-false xs)
  few_numbers (suc n) xs once =
      omega (
        arith,
        count_covers (λ v. nat_lt (number v) (suc n)) (λ v. nat_lt (number v) n) (λ v. number v == n) xs (λ v. below_or_at (number v) n),
        few_numbers n xs once,
        one_at xs once n,
      )

  -- distinct numbers below n are as many as the numbers below n that are among them
  pub distinct_below :
      (n : ℕ) (xs : List X) → EachOnce number xs → list_all (λ v. nat_lt (number v) n) xs ≡ true
      → length xs ≤ count_below n (has_number xs)
  distinct_below n xs once below =
      omega (arith, few_numbers n xs once, all_counted (λ v. nat_lt (number v) n) xs below)

  -- no more numbers are among those of a list than it is long
  pub few_have : (n : ℕ) (xs : List X) → count_below n (has_number xs) ≤ length xs
  few_have n [] = omega (arith, below_none n)
  few_have n (x ∷ xs) =
      omega (
        arith,
        below_or (λ i. number x == i) (has_number xs) n,
        below_one (number x) n,
        at_most_one (nat_lt (number x) n),
        few_have n xs,
      )
