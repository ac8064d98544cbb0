-- Sorting by distinct numbers gives an ascending list of the same length.
use Rattle.std.specs.Prelude.{◌≡◌, ◌≢◌, ◌≤◌, ◌<◌, ◌+◌, ◌==◌, ℕ, suc, Bool, true, false, cond}
use Rattle.std.specs.Prelude.{nat_eq, nat_lt, nat_le, ◌&&◌, List, [], ◌∷◌, length}
use Rattle.std.proofs.Common.{refl, ap, arith}
use Rattle.std.specs.List.{AllByRecursion, All, list_all}
use Rattle.std.proofs.lemmas.List.Elements.{All-cons, All-head, All-tail}
use Rattle.std.proofs.lemmas.Bool.Decides.{nat_tests}
use Rattle.batcher_types.specs.Lists.{count, EachOnce}
use Rattle.batcher_types.specs.Ascending.{IsAscending, is_ascending, insert_by, ordered_by}

pub rec_from_all : {X : Type 0} (P : X → Type 0) (xs : List X) → All P xs → AllByRecursion P xs
rec_from_all P [] h = tt
rec_from_all P (x ∷ xs) h = (All-head P x xs h, rec_from_all P xs (All-tail P x xs h))

pub all_from_rec : {X : Type 0} (P : X → Type 0) (xs : List X) → AllByRecursion P xs → All P xs
all_from_rec P [] h = λ k d below. absurd (omega arith)
all_from_rec P (x ∷ xs) h = All-cons P x xs h.0 (all_from_rec P xs h.1)

pub rec_weaker : {X : Type 0} (P Q : X → Type 0) → ((x : X) → P x → Q x) → (xs : List X)
    → AllByRecursion P xs → AllByRecursion Q xs
rec_weaker P Q w [] h = tt
rec_weaker P Q w (x ∷ xs) h = (w x h.0, rec_weaker P Q w xs h.1)

counted_cons : (b : Bool) (n : ℕ) → cond b 1 0 + n ≡ 0 → (b ≡ false) × (n ≡ 0)
counted_cons true n h = absurd (omega arith)
counted_cons false n h = (refl, omega arith)

-- a test that counts none fails for each
pub none_counted : {X : Type 0} (test : X → Bool) (xs : List X) → count test xs ≡ 0
    → AllByRecursion (λ x. test x ≡ false) xs
none_counted test [] h = tt
none_counted test (x ∷ xs) h =
    let both = counted_cons (test x) (count test xs) h in (both.0, none_counted test xs both.1)

module _ {X : Type 0} (key : X → ℕ) where
  pub insert-all : (P : X → Type 0) (x : X) (xs : List X) → P x → AllByRecursion P xs
      → AllByRecursion P (insert_by key x xs)
  insert-all P x [] p h = (p, tt)
  insert-all P x (y ∷ ys) p h =
      elim (nat_le (key x) (key y)) as (λ b. AllByRecursion P
      (cond b (x ∷ y ∷ ys) (y ∷ insert_by key x ys))) [
        | true ↦ (p, h)
        | false ↦ (h.0, insert-all P x ys p h.1)
      ]

  insert_cons : (x y : X) (ys : List X) (b : Bool) → nat_le (key x) (key y) ≡ b → key x ≢ key y
      → IsAscending key (y ∷ ys) → IsAscending key (insert_by key x ys)
      → IsAscending key (cond b (x ∷ y ∷ ys) (y ∷ insert_by key x ys))
  unfolding IsAscending
  insert_cons x y ys true e apart up rest =
      let below : key x < key y = grind (arith, nat_tests) in (
        (below, rec_weaker (λ z. key y < key z) (λ z. key x < key z) (λ z h. omega arith) ys up.0),
        up,
      )
  insert_cons x y ys false e apart up rest =
      let above : key y < key x = grind (arith, nat_tests) in
      (insert-all (λ z. key y < key z) x ys above up.0, rest)

  pub insert-ascending : (x : X) (xs : List X) → AllByRecursion (λ y. key x ≢ key y) xs
      → IsAscending key xs → IsAscending key (insert_by key x xs)
  unfolding IsAscending
  insert-ascending x [] apart up = (tt, tt)
  insert-ascending x (y ∷ ys) apart up =
      insert_cons x y ys (nat_le (key x) (key y)) refl apart.0 up
      (insert-ascending x ys apart.1 up.1)

  pub ordered-all : (P : X → Type 0) (xs : List X) → AllByRecursion P xs
      → AllByRecursion P (ordered_by key xs)
  ordered-all P [] h = tt
  ordered-all P (x ∷ xs) h = insert-all P x (ordered_by key xs) h.0 (ordered-all P xs h.1)

  pub differ : (m n : ℕ) → nat_eq m n ≡ false → m ≢ n
  differ m n e = grind (arith, nat_tests)

  apart : (m n : ℕ) → (n == m) ≡ false → m ≢ n
  apart m n e = grind (arith, nat_tests)

  pub once_tail : (x : X) (xs : List X) → EachOnce key (x ∷ xs) → EachOnce key xs
  once_tail x xs h = λ i. omega (arith, h i)

  counted_self : (m n : ℕ) → cond (m == m) 1 0 + n ≤ 1 → n ≡ 0
  counted_self m n h =
      let yes : (m == m) ≡ true = grind (arith, nat_tests) in omega (arith, rw yes at h)

  pub once_head : (x : X) (xs : List X) → EachOnce key (x ∷ xs)
      → AllByRecursion (λ y. key x ≢ key y) xs
  once_head x xs h =
      rec_weaker (λ y. (key y == key x) ≡ false) (λ y. key x ≢ key y)
      (λ y e. apart (key x) (key y) e) xs
      (none_counted (λ y. key y == key x) xs
      (counted_self (key x) (count (λ y. key y == key x) xs) (h (key x))))

  -- the order is strict where no number comes twice
  pub ordered-ascending : (xs : List X) → EachOnce key xs → IsAscending key (ordered_by key xs)
  unfolding IsAscending
  ordered-ascending [] h = tt
  ordered-ascending (x ∷ xs) h =
      insert-ascending x (ordered_by key xs)
      (ordered-all (λ y. key x ≢ key y) xs (once_head x xs h))
      (ordered-ascending xs (once_tail x xs h))

  length_insert_by : (x : X) (xs : List X) → length (insert_by key x xs) ≡ suc (length xs)
  length_insert_by x [] = refl
  length_insert_by x (y ∷ ys) =
      elim (nat_le (key x) (key y)) as (λ b. length (cond b (x ∷ y ∷ ys) (y ∷ insert_by key x ys))
      ≡ suc (length (y ∷ ys))) [
        | true ↦ refl
        | false ↦ ap suc (length_insert_by x ys)
      ]

  pub length_ordered : (xs : List X) → length (ordered_by key xs) ≡ length xs
  length_ordered [] = refl
  length_ordered (x ∷ xs) = rw (length_insert_by x (ordered_by key xs), length_ordered xs)

  pub All-ordered : (P : X → Type 0) (xs : List X) → All P xs → All P (ordered_by key xs)
  All-ordered P xs h = all_from_rec P (ordered_by key xs) (ordered-all P xs (rec_from_all P xs h))

  test_all : (x : X) (xs : List X) → AllByRecursion (λ y. key x < key y) xs
      → list_all (λ y. nat_lt (key x) (key y)) xs ≡ true
  test_all x [] h = refl
  test_all x (y ∷ ys) h =
      let yes : nat_lt (key x) (key y) ≡ true = grind (arith, nat_tests) in rw yes
      (test_all x ys h.1)

  both_true : (a b : Bool) → a ≡ true → b ≡ true → (a && b) ≡ true
  both_true a b e f = rw (e, f)

  -- the test agrees with the order
  pub is_ascending-true : (xs : List X) → IsAscending key xs → is_ascending key xs ≡ true
  unfolding IsAscending
  is_ascending-true [] h = refl
  is_ascending-true (x ∷ xs) h =
      both_true (list_all (λ y. nat_lt (key x) (key y)) xs) (is_ascending key xs)
      (test_all x xs h.0) (is_ascending-true xs h.1)
