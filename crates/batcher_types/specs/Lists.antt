-- Lists, by counts and tests.
use Rattle.std.specs.Prelude.{◌≡◌, ◌+◌, ◌≤◌, ℕ, Bool, true, false, cond, ◌==◌, List, [], ◌∷◌}
use Rattle.std.specs.Prelude.{Option, Some, None}

-- how many elements pass the test
abbrev pub count : {X : Type 0} → (X → Bool) → List X → ℕ
count test [] = 0
count test (x ∷ xs) = cond (test x) 1 0 + count test xs

-- no two elements have the same number
abbrev pub EachOnce : {X : Type 0} → (X → ℕ) → List X → Type 0
EachOnce number xs = (i : ℕ) → count (λ x. number x == i) xs ≤ 1

-- whether there is a value that passes the test
abbrev pub is_some_and : {X : Type 0} → Option X → (X → Bool) → Bool
is_some_and None test = false
is_some_and (Some v) test = test v

-- whether exactly one of the two is true
abbrev pub exactly_one : Bool → Bool → Bool
exactly_one true true = false
exactly_one true false = true
exactly_one false b = b

abbrev pub is_empty : {X : Type 0} → List X → Bool
is_empty [] = true
is_empty (x ∷ xs) = false

-- the same elements, each as often, in some order
abbrev pub SameElements : {X : Type 0} → List X → List X → Type 0
SameElements {X} xs ys = (test : X → Bool) → count test xs ≡ count test ys

-- The elements of the first list are among those of the second, each no more often.
abbrev pub ElementsWithin : {X : Type 0} → List X → List X → Type 0
ElementsWithin {X} xs ys = (test : X → Bool) → count test xs ≤ count test ys
