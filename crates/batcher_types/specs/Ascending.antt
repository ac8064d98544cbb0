-- Lists in strictly ascending order of a number of each element.
use Rattle.std.specs.Prelude.{◌<◌, ◌&&◌, ℕ, Bool, true, nat_le, nat_lt, if◌then◌else◌, ⊤, List, []}
use Rattle.std.specs.Prelude.{◌∷◌}
use Rattle.std.specs.List.{AllByRecursion, list_all}

-- each element's number is below those after it
unfoldable pub IsAscending : {X : Type 0} → (X → ℕ) → List X → Type 0
IsAscending number [] = ⊤
IsAscending number (x ∷ xs) = AllByRecursion (λ y. number x < number y) xs × IsAscending number xs

-- the same as a test
abbrev pub is_ascending : {X : Type 0} → (X → ℕ) → List X → Bool
is_ascending number [] = true
is_ascending number (x ∷ xs) =
    list_all (λ y. nat_lt (number x) (number y)) xs && is_ascending number xs

-- x before the first element whose number isn't lower
abbrev pub insert_by : {X : Type 0} → (X → ℕ) → X → List X → List X
insert_by number x [] = x ∷ []
insert_by number x (y ∷ ys) =
    if nat_le (number x) (number y) then x ∷ y ∷ ys else y ∷ insert_by number x ys

-- the elements in the order of their numbers
abbrev pub ordered_by : {X : Type 0} → (X → ℕ) → List X → List X
ordered_by number [] = []
ordered_by number (x ∷ xs) = insert_by number x (ordered_by number xs)
