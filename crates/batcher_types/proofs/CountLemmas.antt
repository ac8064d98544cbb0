-- Counts by tests, lists in which no number comes twice, and what two quorums share.
use Rattle.batcher_types.proofs.Words.{◌≡◌, ◌≤◌, ◌+◌, ◌-◌, ◌/◌, ◌==◌, ◌&&◌, ◌||◌, ℕ, zero, suc, Bool, true, false, not, cond, nat_lt, List, [], ◌∷◌, ◌++◌}
use Rattle.batcher_types.proofs.Words.{length, map, filter, refl, ap, sym, ◌∙◌, arith, ⊎_elim, list_all, list_any, cases_Bool, and_parts, nat_tests, quorum_of}
use Rattle.batcher_types.proofs.Words.{count, EachOnce, SameElements, ElementsWithin}

-- A mark counts once at most.
pub at_most_one : (b : Bool) → cond b 1 0 ≤ 1
at_most_one true = omega arith
at_most_one false = omega arith

module _ {X : Type 0} (test : X → Bool) where
  pub count-append : (xs ys : List X) → count test (xs ++ ys) ≡ count test xs + count test ys
  count-append [] ys = omega arith
  count-append (x ∷ xs) ys = omega (arith, count-append xs ys)

  cond_more : (b : Bool) (n m : ℕ) → n ≤ m → n ≤ cond b 1 0 + m
  cond_more true n m h = omega arith
  cond_more false n m h = omega arith

  pub count-filter_le : (p : X → Bool) (xs : List X) → count test (filter p xs) ≤ count test xs
  count-filter_le p [] = omega arith
  count-filter_le p (x ∷ xs) =
      elim (p x) as (λ b. count test (cond b (x ∷ filter p xs) (filter p xs)) ≤ cond (test x) 1 0 + count test xs) [
        | true ↦ omega (arith, count-filter_le p xs)
        | false ↦ cond_more (test x) _ _ (count-filter_le p xs)
      ]

pub count-filter : {X : Type 0} (p q : X → Bool) (xs : List X) → count p (filter q xs)
    ≡ count (λ v. q v && p v) xs
count-filter p q [] = refl
count-filter p q (x ∷ xs) = grind (arith, count-filter p q xs)

pub count-map : {X Y : Type 0} (test : Y → Bool) (f : X → Y) (xs : List X) → count test (map f xs)
    ≡ count (λ x. test (f x)) xs
count-map test f [] = refl
count-map test f (x ∷ xs) = omega (arith, count-map test f xs)

pub count-true : {X : Type 0} (xs : List X) → count (λ _. true) xs ≡ length xs
count-true [] = refl
count-true (x ∷ xs) = omega (arith, count-true xs)

pub count-false : {X : Type 0} (xs : List X) → count (λ _. false) xs ≡ 0
count-false [] = refl
count-false (x ∷ xs) = omega (arith, count-false xs)

pub count_same : {X : Type 0} (p q : X → Bool) (xs : List X) → ((v : X) → p v ≡ q v) → count p xs
    ≡ count q xs
count_same p q [] same = refl
count_same p q (x ∷ xs) same = rw (same x, count_same p q xs same) refl

-- A stronger test passes no more often,
pub count_mono : {X : Type 0} (p q : X → Bool) (xs : List X)
    → ((v : X) → cond (p v) 1 0 ≤ cond (q v) 1 0) → count p xs ≤ count q xs
count_mono p q [] fewer = omega arith
count_mono p q (x ∷ xs) fewer = omega (arith, fewer x, count_mono p q xs fewer)

-- and where each that passes one test passes one of two others, no more pass the one than the two.
pub count_covers : {X : Type 0} (p q r : X → Bool) (xs : List X)
    → ((v : X) → cond (p v) 1 0 ≤ cond (q v) 1 0 + cond (r v) 1 0)
    → count p xs ≤ count q xs + count r xs
count_covers p q r [] covers = omega arith
count_covers p q r (v ∷ xs) covers = omega (arith, covers v, count_covers p q r xs covers)

-- Each passes a test or fails it.
pub count_split : {X : Type 0} (p : X → Bool) (xs : List X)
    → count p xs + count (λ v. not (p v)) xs ≡ length xs
count_split p [] = omega arith
count_split p (v ∷ xs) = one (p v) _ _ _ (count_split p xs)
  where
    one : (b : Bool) (n m l : ℕ) → n + m ≡ l → (cond b 1 0 + n) + (cond (not b) 1 0 + m) ≡ suc l
    one true n m l h = omega (arith, h)
    one false n m l h = omega (arith, h)

pub keeps_all : (b : Bool) (n : ℕ) → cond (not b) 1 0 + n ≡ 0 → (b ≡ true) × (n ≡ 0)
keeps_all true n h = (refl, omega (arith, h))
keeps_all false n h = absurd (omega (arith, h))

-- where none fails a test, all pass it, and a filter by it keeps all
pub all_count : {X : Type 0} (p : X → Bool) (xs : List X) → count (λ v. not (p v)) xs ≡ 0
    → list_all p xs ≡ true
all_count p [] h = refl
all_count p (x ∷ xs) h = grind (arith, all_count p xs)

pub filter_all : {X : Type 0} (p : X → Bool) (xs : List X) → count (λ v. not (p v)) xs ≡ 0
    → filter p xs ≡ xs
filter_all p [] h = refl
filter_all p (x ∷ xs) h =
    let both = keeps_all (p x) (count (λ v. not (p v)) xs) h in
    rw (both.0, filter_all p xs both.1) refl

-- where all pass a test, none fails it, as many pass as there are, and those that pass another
-- pass both
pub none_fails : {X : Type 0} (p : X → Bool) (xs : List X) → list_all p xs ≡ true
    → count (λ v. not (p v)) xs ≡ 0
none_fails p [] all = omega arith
none_fails p (v ∷ xs) all =
    let parts = and_parts (p v) (list_all p xs) all in rw parts.0 (omega (arith, none_fails p xs parts.1))

pub all_counted : {X : Type 0} (p : X → Bool) (xs : List X) → list_all p xs ≡ true → count p xs
    ≡ length xs
all_counted p xs all = omega (arith, count_split p xs, none_fails p xs all)

pub all_counted_both : {X : Type 0} (p q : X → Bool) (xs : List X) → list_all p xs ≡ true
    → count (λ v. p v && q v) xs ≡ count q xs
all_counted_both p q xs all =
    sym (count-filter q p xs) ∙ ap (count q) (filter_all p xs (none_fails p xs all))

-- where any passes, one is counted, and the other way round
pub count_none : {X : Type 0} (p : X → Bool) (xs : List X) → list_any p xs ≡ false → count p xs ≡ 0
count_none p [] h = refl
count_none p (x ∷ xs) h = one (p x) (list_any p xs) (count p xs) h (count_none p xs)
  where
    one : (b c : Bool) (n : ℕ) → (b || c) ≡ false → (c ≡ false → n ≡ 0) → cond b 1 0 + n ≡ 0
    one true c n h rest = absurd (cc)
    one false c n h rest = omega (arith, rest h)

pub any_count : {X : Type 0} (p : X → Bool) (xs : List X) → list_any p xs ≡ true → 1 ≤ count p xs
any_count p [] h = absurd (cc)
any_count p (x ∷ xs) h = one (p x) (list_any p xs) (count p xs) h (any_count p xs)
  where
    one : (b c : Bool) (n : ℕ) → (b || c) ≡ true → (c ≡ true → 1 ≤ n) → 1 ≤ cond b 1 0 + n
    one true c n h rest = omega arith
    one false c n h rest = omega (arith, rest h)

pub count_any : {X : Type 0} (p : X → Bool) (xs : List X) → 1 ≤ count p xs → list_any p xs ≡ true
count_any p xs h =
    ⊎_elim (λ yes. yes) (λ no. absurd (omega (arith, h, count_none p xs no))) (cases_Bool (list_any p xs))

-- what is among the elements of one list is among those of a list that has them all
pub any_within : {X : Type 0} (p : X → Bool) (xs ys : List X) → ElementsWithin xs ys
    → list_any p xs ≡ true → list_any p ys ≡ true
any_within p xs ys within h = count_any p ys (omega (arith, within p, any_count p xs h))

pub length_same : {X : Type 0} (xs ys : List X) → SameElements xs ys → length xs ≡ length ys
length_same xs ys same = sym (count-true xs) ∙ (same (λ _. true) ∙ count-true ys)

-- numbers below the next bound
pub below_or_at : (m n : ℕ)
    → cond (nat_lt m (suc n)) 1 0 ≤ cond (nat_lt m n) 1 0 + cond (m == n) 1 0
below_or_at m n = grind (arith, nat_tests)

pub below_zero : (m : ℕ) → nat_lt m 0 ≡ false
below_zero m = grind (arith, nat_tests)

module _ {X : Type 0} (number : X → ℕ) where
  -- fewer of each stay once each
  pub once_fewer : (xs ys : List X) → ((test : X → Bool) → count test ys ≤ count test xs)
      → EachOnce number xs → EachOnce number ys
  once_fewer xs ys fewer once i = let more = fewer (λ x. number x == i) in omega (arith, more, once i)

  pub once_front : (xs ys : List X) → EachOnce number (xs ++ ys) → EachOnce number xs
  once_front xs ys = once_fewer (xs ++ ys) xs (λ test. omega (arith, count-append test xs ys))

  pub once_filter_end : (p : X → Bool) (xs ys : List X) → EachOnce number (xs ++ ys)
      → EachOnce number (xs ++ filter p ys)
  once_filter_end p xs ys =
      once_fewer (xs ++ ys) (xs ++ filter p ys)
      (λ test. omega (arith, count-append test xs ys, count-append test xs (filter p ys), count-filter_le test p ys))

  -- a list of no element
  pub once_none : EachOnce number []
  once_none i = omega arith

  few_below : (n : ℕ) (xs : List X) → EachOnce number xs → count (λ v. nat_lt (number v) n) xs ≤ n
  few_below zero xs once =
      omega (arith, count_same (λ v. nat_lt (number v) 0) (λ _. false) xs (λ v. below_zero (number v)), count-false xs)
  few_below (suc n) xs once =
      omega (
        arith,
        few_below n xs once,
        once n,
        count_covers (λ v. nat_lt (number v) (suc n)) (λ v. nat_lt (number v) n) (λ v. number v == n) xs
            (λ v. below_or_at (number v) n),
      )

  -- A list of distinct numbers below n is no longer than n.
  pub few_distinct : (n : ℕ) (xs : List X) → EachOnce number xs
      → count (λ v. not (nat_lt (number v) n)) xs ≡ 0 → length xs ≤ n
  few_distinct n xs once below =
      omega (arith, count_split (λ v. nat_lt (number v) n) xs, few_below n xs once, below)

-- Two quorums of some participants are more than all of them, by more than the third that may be
-- faulty.
pub quorums_overlap : (n : ℕ) → 1 ≤ n → n + ((n - 1) / 3 + 1) ≤ quorum_of n + quorum_of n
quorums_overlap n some = omega arith
