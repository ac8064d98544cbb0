-- Lists in ascending order: their uniqueness, the search by halves, and what a map does with them.
use Rattle.batcher_types.proofs.Words.{◌≡◌, ◌≢◌, ◌≤◌, ◌<◌, ◌+◌, ◌-◌, ℕ, suc, zero, Bool, true, false, cond, nat_eq, nat_lt, nat_le, ◌⊎◌, inl, inr, List, []}
use Rattle.batcher_types.proofs.Words.{◌∷◌, ◌++◌, length, get_or, set, take, drop, find, Some, None, map, refl, ap, sym, subst, arith, AllByRecursion, All}
use Rattle.batcher_types.proofs.Words.{AllAdjacentBelow, list_all, IsPermutation, IsNonDecreasingBy, IsPartitionPoint, IsSearchInRange, IsBinarySearchResult}
use Rattle.batcher_types.proofs.Words.{All-set, nat_tests, All-permutation, IsPermutation-sym, IsPermutation-map, IsDistinct-IsPermutation, nat_eq_equiv}
use Rattle.batcher_types.proofs.Words.{nat_cmp_total, ranked, Less, Equal, Greater, nat_cmp, is_lt, ordering_index, searchable_from_sorted, none-some, Result}
use Rattle.batcher_types.proofs.Words.{Ok, Err, IfOk, IfErr, and_parts}
use Rattle.std.specs.List.{IsDistinct}
use native.Mathlib.Numerals.{unary_clauses}
use Rattle.batcher_types.proofs.Words.{insert_by, ordered_by, is_ascending, EachOnce, rec_from_all, all_from_rec, rec_weaker, insert-all, insert-ascending}
use Rattle.batcher_types.proofs.Words.{ordered-all, ordered-ascending, once_head, once_tail, differ}
use Rattle.batcher_types.specs.Ascending.{IsAscending}

-- x is in the list
pub Mem : {X : Type 0} → X → List X → Type 0
Mem x [] = ⊥
Mem x (y ∷ ys) = (x ≡ y) ⊎ Mem x ys

rec_at : {X : Type 0} (P : X → Type 0) (x : X) (xs : List X) → AllByRecursion P xs → Mem x xs → P x
unfolding Mem
rec_at P x [] h m = absurd m
rec_at P x (y ∷ ys) h (inl e) = subst P (sym e) h.0
rec_at P x (y ∷ ys) h (inr m) = rec_at P x ys h.1 m

rec_both : {X : Type 0} (P Q R : X → Type 0) → ((x : X) → P x → Q x → R x) → (xs : List X)
    → AllByRecursion P xs → AllByRecursion Q xs → AllByRecursion R xs
rec_both P Q R w [] h g = tt
rec_both P Q R w (x ∷ xs) h g = (w x h.0 g.0, rec_both P Q R w xs h.1 g.1)

no_mem : {X : Type 0} (x : X) → Mem x [] → ⊥
unfolding Mem
no_mem x m = m

module _ {X : Type 0} (key : X → ℕ) where
  rec_from_map : (P : ℕ → Type 0) (xs : List X) → AllByRecursion P (map key xs)
      → AllByRecursion (λ x. P (key x)) xs
  rec_from_map P [] h = tt
  rec_from_map P (x ∷ xs) h = (h.0, rec_from_map P xs h.1)

  mem-insert_self : (x : X) (xs : List X) → Mem x (insert_by key x xs)
  unfolding Mem
  mem-insert_self x [] = inl refl
  mem-insert_self x (y ∷ ys) =
      elim (nat_le (key x) (key y)) as (λ b. Mem x (cond b (x ∷ y ∷ ys) (y ∷ insert_by key x ys))) [
        | true ↦ inl refl
        | false ↦ inr (mem-insert_self x ys)
      ]

  mem-insert : (x z : X) (xs : List X) → Mem z xs → Mem z (insert_by key x xs)
  unfolding Mem
  mem-insert x z [] m = absurd m
  mem-insert x z (y ∷ ys) (inl e) =
      elim (nat_le (key x) (key y)) as (λ b. Mem z (cond b (x ∷ y ∷ ys) (y ∷ insert_by key x ys))) [
        | true ↦ inr (inl e)
        | false ↦ inl e
      ]
  mem-insert x z (y ∷ ys) (inr m) =
      elim (nat_le (key x) (key y)) as (λ b. Mem z (cond b (x ∷ y ∷ ys) (y ∷ insert_by key x ys))) [
        | true ↦ inr (inr m)
        | false ↦ inr (mem-insert x z ys m)
      ]

  ordered-mem : (xs : List X) → AllByRecursion (λ z. Mem z (ordered_by key xs)) xs
  ordered-mem [] = tt
  ordered-mem (x ∷ xs) = (
    mem-insert_self x (ordered_by key xs),
    rec_weaker (λ z. Mem z (ordered_by key xs)) (λ z. Mem z (insert_by key x (ordered_by key xs)))
        (λ z m. mem-insert x z (ordered_by key xs) m) xs (ordered-mem xs),
  )

  not_first : (x y : X) (ys : List X) → key y < key x → Mem x (y ∷ ys) → Mem x ys
  unfolding Mem
  not_first x y ys h (inl e) = absurd (omega (arith, ap key e))
  not_first x y ys h (inr m) = m

  rest_in : (y : X) (xs ys : List X) → AllByRecursion (λ x. key y < key x) xs
      → AllByRecursion (λ x. Mem x (y ∷ ys)) xs → AllByRecursion (λ x. Mem x ys) xs
  rest_in y [] ys up h = tt
  rest_in y (x ∷ xs) ys up h = (not_first x y ys up.0 h.0, rest_in y xs ys up.1 h.1)

  same_first : (y z : X) (ys zs : List X) → AllByRecursion (λ x. key y < key x) ys
      → AllByRecursion (λ x. key z < key x) zs → Mem y (z ∷ zs) → Mem z (y ∷ ys) → y ≡ z
  unfolding Mem
  same_first y z ys zs up vp (inl e) n = e
  same_first y z ys zs up vp (inr m) (inl e) = sym e
  same_first y z ys zs up vp (inr m) (inr n) =
      let above : key z < key y = rec_at (λ x. key z < key x) y zs vp m in
      let below : key y < key z = rec_at (λ x. key y < key x) z ys up n in
      absurd (omega arith)

  -- two ascending lists with the same elements are one
  pub ascending_unique : (ys zs : List X) → IsAscending key ys → IsAscending key zs
      → AllByRecursion (λ x. Mem x zs) ys → AllByRecursion (λ x. Mem x ys) zs → ys ≡ zs
  unfolding IsAscending
  ascending_unique [] [] up vp h g = refl
  ascending_unique [] (z ∷ zs) up vp h g = absurd (no_mem z g.0)
  ascending_unique (y ∷ ys) [] up vp h g = absurd (no_mem y h.0)
  ascending_unique (y ∷ ys) (z ∷ zs) up vp h g =
      let first : y ≡ z = same_first y z ys zs up.0 vp.0 h.0 g.0 in
      let rest : ys ≡ zs = ascending_unique ys zs up.1 vp.1
      (rest_in y ys zs up.0 (subst (λ w. AllByRecursion (λ x. Mem x (w ∷ zs)) ys) (sym first) h.1))
      (rest_in z zs ys vp.0 (subst (λ w. AllByRecursion (λ x. Mem x (w ∷ ys)) zs) first g.1)) in
      cc

  -- numbers that do not fall and differ key rise
  pub rising : (xs : List X) → IsNonDecreasingBy key xs → IsDistinct nat_eq (map key xs)
      → IsAscending key xs
  unfolding IsAscending IsDistinct
  rising [] up apart = tt
  rising (x ∷ xs) up apart = (
    rec_both (λ y. key x ≤ key y) (λ y. nat_eq (key x) (key y) ≡ false) (λ y. key x < key y)
        (λ y le e. let ne : key x ≢ key y = differ key (key x) (key y) e in omega arith) xs
        (rec_from_all (λ y. key x ≤ key y) xs (λ k d below. up 0 (suc k) d (omega arith) (omega arith)))
        (rec_from_map (λ k. nat_eq (key x) k ≡ false) xs apart.0),
    rising xs (λ i j d le below. up (suc i) (suc j) d (omega arith) (omega arith)) apart.1,
  )

  all-mem : (xs : List X) → AllByRecursion (λ z. Mem z xs) xs
  unfolding Mem
  all-mem [] = tt
  all-mem (x ∷ xs) = (inl refl, rec_weaker (λ z. Mem z xs) (λ z. (z ≡ x) ⊎ Mem z xs) (λ z m. inr m) xs (all-mem xs))

  moved-mem : (xs ys : List X) → IsPermutation xs ys → AllByRecursion (λ z. Mem z xs) ys
  moved-mem xs ys p = rec_from_all (λ z. Mem z xs) ys (All-permutation (λ z. Mem z xs) xs ys p (all_from_rec (λ z. Mem z xs) xs (all-mem xs)))

  mem_through : (xs ys : List X) → AllByRecursion (λ z. Mem z ys) xs → (zs : List X)
      → AllByRecursion (λ z. Mem z xs) zs → AllByRecursion (λ z. Mem z ys) zs
  mem_through xs ys h zs g = rec_weaker (λ z. Mem z xs) (λ z. Mem z ys) (λ z m. rec_at (λ w. Mem w ys) z xs h m) zs g

  no_tie : (m n : ℕ) → m ≢ n → nat_eq m n ≡ false
  no_tie m n h = grind (arith, nat_tests)

  tie : (m n : ℕ) → m ≡ n → nat_eq m n ≡ true
  tie m n h = grind (arith, nat_tests)

  distinct_map : (x : ℕ) (xs : List X) → AllByRecursion (λ y. x ≢ key y) xs
      → AllByRecursion (λ k. nat_eq x k ≡ false) (map key xs)
  distinct_map x [] h = tt
  distinct_map x (y ∷ ys) h = (no_tie x (key y) h.0, distinct_map x ys h.1)

  distinct_from_once : (xs : List X) → EachOnce key xs → IsDistinct nat_eq (map key xs)
  unfolding IsDistinct
  distinct_from_once [] h = tt
  distinct_from_once (x ∷ xs) h = (distinct_map (key x) xs (once_head key x xs h), distinct_from_once xs (once_tail key x xs h))

  -- what a sort by distinct numbers gives
  pub ordered_from_sort : (xs ys : List X) → EachOnce key xs → IsPermutation xs ys
      → IsNonDecreasingBy key ys → ys ≡ ordered_by key xs
  ordered_from_sort xs ys once moved up =
      let apart = distinct_from_once xs once in
      let apart_too : IsDistinct nat_eq (map key ys) = IsDistinct-IsPermutation nat_eq nat_eq_equiv.symm (map key xs) (map key ys)
      (IsPermutation-map key xs ys moved) apart in
      ascending_unique ys (ordered_by key xs) (rising ys up apart_too) (ordered-ascending key xs once)
      (mem_through xs (ordered_by key xs) (ordered-mem xs) ys (moved-mem xs ys moved))
      (mem_through xs ys (moved-mem ys xs (IsPermutation-sym xs ys moved)) (ordered_by key xs)
      (ordered-all key (λ z. Mem z xs) xs (all-mem xs)))

  adjacent_cons : (x y : X) (ys : List X) (k : ℕ) (d : X) → key x < key y
      → AllAdjacentBelow (λ x y. key x < key y) (y ∷ ys) (length (y ∷ ys)) → k + 1
      < length (x ∷ y ∷ ys) → key (get_or (x ∷ y ∷ ys) k d) < key (get_or (x ∷ y ∷ ys) (k + 1) d)
  adjacent_cons x y ys zero d first rest below = first
  adjacent_cons x y ys (suc k) d first rest below = simp unary_clauses (simp unary_clauses at (rest k d (omega arith)))

  pub adjacent_from_ascending : (xs : List X) → IsAscending key xs
      → AllAdjacentBelow (λ x y. key x < key y) xs (length xs)
  unfolding IsAscending
  adjacent_from_ascending [] up = λ k d below. absurd (omega arith)
  adjacent_from_ascending (x ∷ []) up = λ k d below. absurd (omega arith)
  adjacent_from_ascending (x ∷ y ∷ ys) up = λ k d below. adjacent_cons x y ys k d up.0.0 (adjacent_from_ascending (y ∷ ys) up.1) below

  pub ascending_from_adjacent : (xs : List X)
      → AllAdjacentBelow (λ x y. key x < key y) xs (length xs) → IsAscending key xs
  unfolding IsAscending
  ascending_from_adjacent [] h = tt
  ascending_from_adjacent (x ∷ []) h = (tt, tt)
  ascending_from_adjacent (x ∷ y ∷ ys) h =
      let rest = ascending_from_adjacent (y ∷ ys) (λ k d below. simp unary_clauses (simp unary_clauses at (h (suc k) d (omega arith)))) in
      let first : key x < key y = h 0 x (omega arith) in
      ((first, rec_weaker (λ z. key y < key z) (λ z. key x < key z) (λ z g. omega arith) ys rest.0), rest)

  -- an insert between the lower and the higher
  pub insert_at : (x : X) (xs : List X) (i : ℕ) → i ≤ length xs
      → ((k : ℕ) (d : X) → k < i → key (get_or xs k d) < key x)
      → ((k : ℕ) (d : X) → i ≤ k → k < length xs → key x < key (get_or xs k d)) → take i xs
      ++ x ∷ drop i xs ≡ insert_by key x xs
  insert_at x [] zero within before after = refl
  insert_at x [] (suc i) within before after = absurd (omega arith)
  insert_at x (y ∷ ys) zero within before after =
      let above : key x < key y = after 0 y (omega arith) (omega arith) in
      let yes : nat_le (key x) (key y) ≡ true = grind (arith, nat_tests) in
      rw yes
  insert_at x (y ∷ ys) (suc i) within before after =
      let below : key y < key x = before 0 y (omega arith) in
      let no : nat_le (key x) (key y) ≡ false = grind (arith, nat_tests) in
      rw no (ap (λ zs. y ∷ zs) (insert_at x ys i (omega arith) (λ k d lt. before (suc k) d (omega arith))
      (λ k d le lt. after (suc k) d (omega arith) (omega arith))))

  -- the element at a place is the one that its number finds
  pub find_at : (xs : List X) (i k : ℕ) (d : X) → IsAscending key xs → i < length xs
      → key (get_or xs i d) ≡ k → find (λ x. nat_eq (key x) k) xs ≡ Some (get_or xs i d)
  unfolding IsAscending
  find_at [] i k d up below e = absurd (omega arith)
  find_at (y ∷ ys) zero k d up below e = let yes : nat_eq (key y) k ≡ true = tie (key y) k e in rw yes
  find_at (y ∷ ys) (suc i) k d up below e =
      let higher : key y < key (get_or ys i d) = all_from_rec (λ z. key y < key z) ys up.0 i d (omega arith) in
      let no : nat_eq (key y) k ≡ false = no_tie (key y) k (λ f. omega (arith, higher, e, f)) in
      rw no (find_at ys i k d up.1 (omega arith) e)

  -- no element has the number
  pub find_absent : (xs : List X) (i k : ℕ) → i ≤ length xs
      → ((j : ℕ) (d : X) → j < i → key (get_or xs j d) < k)
      → ((j : ℕ) (d : X) → i ≤ j → j < length xs → k < key (get_or xs j d))
      → find (λ x. nat_eq (key x) k) xs ≡ None
  find_absent [] i k within before after = refl
  find_absent (y ∷ ys) zero k within before after =
      let above : k < key y = after 0 y (omega arith) (omega arith) in
      let no : nat_eq (key y) k ≡ false = no_tie (key y) k (λ f. omega (arith, above, f)) in
      rw no (find_absent ys zero k (omega arith) (λ j d lt. absurd (omega arith)) (λ j d le lt. after (suc j) d (omega arith) (omega arith)))
  find_absent (y ∷ ys) (suc i) k within before after =
      let below : key y < k = before 0 y (omega arith) in
      let no : nat_eq (key y) k ≡ false = no_tie (key y) k (λ f. omega (arith, below, f)) in
      rw no (find_absent ys i k (omega arith) (λ j d lt. before (suc j) d (omega arith)) (λ j d le lt. after (suc j) d (omega arith) (omega arith)))

  none_cons : (y : X) (ys : List X) (k : ℕ) (b : Bool) → nat_eq (key y) k ≡ b
      → cond b (Some y) (find (λ x. nat_eq (key x) k) ys) ≡ None → (key y ≢ k)
      × (find (λ x. nat_eq (key x) k) ys ≡ None)
  none_cons y ys k true e h = absurd (none-some y (sym h))
  none_cons y ys k false e h = (differ key (key y) k e, h)

  none_differ : (xs : List X) (k : ℕ) → find (λ x. nat_eq (key x) k) xs ≡ None
      → AllByRecursion (λ y. key y ≢ k) xs
  none_differ [] k h = tt
  none_differ (y ∷ ys) k h = let both = none_cons y ys k (nat_eq (key y) k) refl h in (both.0, none_differ ys k both.1)

  -- a new element keeps the order
  pub insert_new : (x : X) (xs : List X) → IsAscending key xs
      → find (λ y. nat_eq (key y) (key x)) xs ≡ None → IsAscending key (insert_by key x xs)
  insert_new x xs up h = insert-ascending key x xs (rec_weaker (λ y. key y ≢ key x) (λ y. key x ≢ key y) (λ y n e. n (sym e)) xs (none_differ xs (key x) h)) up

  pub All-insert_by : (P : X → Type 0) (x : X) (xs : List X) → P x → All P xs
      → All P (insert_by key x xs)
  All-insert_by P x xs p h = all_from_rec P (insert_by key x xs) (insert-all key P x xs p (rec_from_all P xs h))

  not_lower : (m n : ℕ) → m < n → is_lt (nat_cmp n m) ≡ false
  not_lower m n h =
      let no : nat_lt n m ≡ false = grind (arith, nat_tests) in
      let other : nat_eq n m ≡ false = grind (arith, nat_tests) in
      rw (no, other)

  -- what a search by halves asks
  pub searchable : (xs : List X) (k : ℕ) → IsAscending key xs
      → IsNonDecreasingBy (λ y. ordering_index (nat_cmp (key y) k)) xs
  searchable xs k up =
      searchable_from_sorted nat_cmp_total key xs k (λ j d low below. not_lower (key (get_or xs j d)) (key (get_or xs (j + 1) d))
      (adjacent_from_ascending xs up j d below))

  -- what a search by halves finds, by the list
  pub searched_found : (xs : List X) (k i : ℕ) → IsAscending key xs → i < length xs
      → ((d : X) → nat_cmp (key (get_or xs i d)) k ≡ Equal) → (d : X)
      → find (λ x. nat_eq (key x) k) xs ≡ Some (get_or xs i d)
  searched_found xs k i up below e d = find_at xs i k d up below (ranked (key (get_or xs i d)) k Equal (sym (e d)))

  module _ (xs : List X) (k i : ℕ) (within : i ≤ length xs) (up : IsAscending key xs)
      (split : IsNonDecreasingBy (λ y. ordering_index (nat_cmp (key y) k)) xs
      → IsPartitionPoint (λ y. nat_cmp (key y) k ≡ Less) (λ y. nat_cmp (key y) k ≡ Greater) xs i)
    where
      pub lower : (j : ℕ) (d : X) → j < i → key (get_or xs j d) < k
      lower j d before = ranked (key (get_or xs j d)) k Less (sym ((split (searchable xs k up)).0 j d (omega arith) before))

      pub higher : (j : ℕ) (d : X) → i ≤ j → j < length xs → k < key (get_or xs j d)
      higher j d after below = ranked (key (get_or xs j d)) k Greater (sym ((split (searchable xs k up)).1 j d after below))

      pub searched_absent : find (λ x. nat_eq (key x) k) xs ≡ None
      searched_absent = find_absent xs i k within lower higher

      pub searched_insert : (x : X) → key x ≡ k → take i xs ++ x ∷ drop i xs ≡ insert_by key x xs
      searched_insert x e = insert_at x xs i within (λ j d before. rw e (lower j d before)) (λ j d after below. rw e (higher j d after below))

  -- the same of what a search answers
  pub search_found : (xs : List X) (k : ℕ) (r : Result ℕ ℕ) → IsAscending key xs
      → IsSearchInRange r (length xs) → IsBinarySearchResult (λ y. nat_cmp (key y) k) xs r
      → IfOk r (λ i. (i < length xs) × ((d : X) → find (λ x. nat_eq (key x) k) xs
      ≡ Some (get_or xs i d)))
  search_found xs k (Ok i) up within h = (within, searched_found xs k i up within h)
  search_found xs k (Err i) up within h = tt

  pub search_absent : (xs : List X) (k : ℕ) (r : Result ℕ ℕ) → IsAscending key xs
      → IsSearchInRange r (length xs) → IsBinarySearchResult (λ y. nat_cmp (key y) k) xs r
      → IfErr r (λ i. (i ≤ length xs) × (find (λ x. nat_eq (key x) k) xs ≡ None)
      × ((x : X) → key x ≡ k → take i xs ++ x ∷ drop i xs ≡ insert_by key x xs))
  search_absent xs k (Ok i) up within h = tt
  search_absent xs k (Err i) up within h = (within, searched_absent xs k i within up h, searched_insert xs k i within up h)

  all_tested : (x : X) (xs : List X) → list_all (λ y. nat_lt (key x) (key y)) xs ≡ true
      → AllByRecursion (λ y. key x < key y) xs
  all_tested x [] h = tt
  all_tested x (y ∷ ys) h =
      let both = and_parts (nat_lt (key x) (key y)) (list_all (λ z. nat_lt (key x) (key z)) ys) h in
      let below : key x < key y = grind (arith, nat_tests, both.0) in
      (below, all_tested x ys both.1)

  -- a list that passes the test ascends
  pub ascending_from_test : (xs : List X) → is_ascending key xs ≡ true → IsAscending key xs
  unfolding IsAscending
  ascending_from_test [] h = tt
  ascending_from_test (x ∷ xs) h =
      let both = and_parts (list_all (λ y. nat_lt (key x) (key y)) xs) (is_ascending key xs) h in (all_tested x xs both.0, ascending_from_test xs both.1)

  unmatched : (x : X) (xs : List X) (k : ℕ) → AllByRecursion (λ y. key y ≢ k) xs
      → map (λ y. cond (nat_eq (key y) k) x y) xs ≡ xs
  unmatched x [] k h = refl
  unmatched x (y ∷ ys) k h = let no : nat_eq (key y) k ≡ false = no_tie (key y) k h.0 in rw (no, unmatched x ys k h.1)

  some_is : (y z : X) (ys : List X) (k : ℕ) (b : Bool) → nat_eq (key y) k ≡ b
      → (find (λ x. nat_eq (key x) k) ys ≡ Some z → key z ≡ k)
      → cond b (Some y) (find (λ x. nat_eq (key x) k) ys) ≡ Some z → key z ≡ k
  some_is y z ys k true e rest h = let same : y ≡ z = cc in let is : key y ≡ k = grind (arith, nat_tests) in rw same at is
  some_is y z ys k false e rest h = rest h

  -- what a number finds has it
  pub found_key : (xs : List X) (k : ℕ) (z : X) → find (λ x. nat_eq (key x) k) xs ≡ Some z → key z
      ≡ k
  found_key [] k z h = absurd (none-some z h)
  found_key (y ∷ ys) k z h = some_is y z ys k (nat_eq (key y) k) refl (found_key ys k z) h

  -- another element in the place of one with its number
  pub set_ascending : (xs : List X) (i : ℕ) (x d : X) → IsAscending key xs → i < length xs
      → key (get_or xs i d) ≡ key x → IsAscending key (set xs i x)
  unfolding IsAscending
  set_ascending [] i x d up below e = absurd (omega arith)
  set_ascending (y ∷ ys) zero x d up below e = (subst (λ k. AllByRecursion (λ z. k < key z) ys) e up.0, up.1)
  set_ascending (y ∷ ys) (suc i) x d up below e =
      let lower : key y < key (get_or ys i d) = all_from_rec (λ z. key y < key z) ys up.0 i d (omega arith) in (
        rec_from_all (λ z. key y < key z) (set ys i x) (All-set (λ z. key y < key z) ys i x (omega (arith, lower, e))
            (all_from_rec (λ z. key y < key z) ys up.0)),
        set_ascending ys i x d up.1 (omega arith) e,
      )

  pub replace_at : (xs : List X) (i : ℕ) (x d : X) → IsAscending key xs → i < length xs
      → key (get_or xs i d) ≡ key x → set xs i x ≡ map (λ y. cond (nat_eq (key y) (key x)) x y) xs
  unfolding IsAscending
  replace_at [] i x d up below e = absurd (omega arith)
  replace_at (y ∷ ys) zero x d up below e =
      let yes : nat_eq (key y) (key x) ≡ true = tie (key y) (key x) e in
      rw (yes, unmatched x ys (key x) (rec_weaker (λ z. key y < key z) (λ z. key z ≢ key x) (λ z lt f. omega (arith, lt, f, e)) ys up.0))
  replace_at (y ∷ ys) (suc i) x d up below e =
      let lower : key y < key (get_or ys i d) = all_from_rec (λ z. key y < key z) ys up.0 i d (omega arith) in
      let no : nat_eq (key y) (key x) ≡ false = no_tie (key y) (key x) (λ f. omega (arith, lower, e, f)) in
      rw no (ap (λ zs. y ∷ zs) (replace_at ys i x d up.1 (omega arith) e))

  pub replace_none : (x : X) (xs : List X) → find (λ y. nat_eq (key y) (key x)) xs ≡ None
      → map (λ y. cond (nat_eq (key y) (key x)) x y) xs ≡ xs
  replace_none x xs h = unmatched x xs (key x) (none_differ xs (key x) h)

  -- the last element's number is the highest
  pub below_last : (xs : List X) (n j : ℕ) (d : X) → IsAscending key xs → suc n ≡ length xs → j ≤ n
      → key (get_or xs j d) ≤ key (get_or xs n d)
  unfolding IsAscending
  below_last [] n j d up e within = absurd (omega arith)
  below_last (x ∷ xs) zero zero d up e within = omega arith
  below_last (x ∷ xs) zero (suc j) d up e within = absurd (omega arith)
  below_last (x ∷ xs) (suc n) zero d up e within =
      let higher : key x < key (get_or xs n d) = all_from_rec (λ z. key x < key z) xs up.0 n d (omega arith) in
      omega arith
  below_last (x ∷ xs) (suc n) (suc j) d up e within = below_last xs n j d up.1 (omega arith) (omega arith)

  lower_than : (xs : List X) (k : ℕ) (last : X) → IsAscending key xs → 0 < length xs
      → ((d : X) → last ≡ get_or xs (length xs - 1) d) → key last < k → (j : ℕ) (d : X) → j
      < length xs → key (get_or xs j d) < k
  lower_than xs k last up some is lower j d below =
      let highest = below_last xs (length xs - 1) j d up (omega arith) (omega arith) in
      omega (arith, highest, ap key (is d))

  -- where the last element's number is lower than this, all are
  pub all_below_last : (xs : List X) (k i : ℕ) (last : X) → IsAscending key xs → 0 < length xs
      → ((d : X) → last ≡ get_or xs (length xs - 1) d) → i ≡ key last → nat_lt i k ≡ true
      → All (λ x. key x < k) xs
  all_below_last xs k i last up some is e lower =
      let lt : key last < k = grind (arith, nat_tests) in
      λ j d below. lower_than xs k last up some is lt j d below

  -- where the first element is higher, all are
  pub all_above_first : (xs : List X) (k i : ℕ) (first : X) → IsAscending key xs → 0 < length xs
      → ((d : X) → first ≡ get_or xs 0 d) → i ≡ key first → nat_lt k i ≡ true
      → All (λ x. k < key x) xs
  unfolding IsAscending
  all_above_first [] k i first up some is e higher = absurd (omega arith)
  all_above_first (x ∷ xs) k i first up some is e higher =
      let same = is x in
      let lt : k < key x = grind (arith, nat_tests) in
      all_from_rec (λ y. k < key y) (x ∷ xs) (lt, rec_weaker (λ y. key x < key y) (λ y. k < key y) (λ y above. omega (arith, lt, above)) xs up.0)

  -- where all elements are higher, a new one comes first
  pub first_absent : (xs : List X) (k : ℕ) → All (λ x. k < key x) xs
      → find (λ x. nat_eq (key x) k) xs ≡ None
  first_absent xs k above = find_absent xs 0 k (omega arith) (λ j d lt. absurd (omega arith)) (λ j d le lt. above j d lt)

  pub first_insert : (xs : List X) (k : ℕ) (x : X) → All (λ x. k < key x) xs → key x ≡ k
      → take 0 xs ++ x ∷ drop 0 xs ≡ insert_by key x xs
  first_insert xs k x above e = insert_at x xs 0 (omega arith) (λ j d lt. absurd (omega arith)) (λ j d le lt. omega (arith, above j d lt))

  -- where all elements are lower, a new one comes last
  pub last_absent : (xs : List X) (k : ℕ) → All (λ x. key x < k) xs
      → find (λ x. nat_eq (key x) k) xs ≡ None
  last_absent xs k below = find_absent xs (length xs) k (omega arith) (λ j d lt. below j d lt) (λ j d le lt. absurd (omega arith))

  pub last_insert : (xs : List X) (k : ℕ) (x : X) → All (λ x. key x < k) xs → key x ≡ k
      → take (length xs) xs ++ x ∷ drop (length xs) xs ≡ insert_by key x xs
  last_insert xs k x below e = insert_at x xs (length xs) (omega arith) (λ j d lt. omega (arith, below j d lt)) (λ j d le lt. absurd (omega arith))
