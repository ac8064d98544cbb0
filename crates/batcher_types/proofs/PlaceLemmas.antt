-- Where an item is in an ascending list, or where it would be.
use Rattle.batcher_types.proofs.Words.{◌≡◌, ◌∙◌, ◌≤◌, ◌<◌, ◌+◌, ◌++◌, ℕ, suc, zero, Bool, true, false, cond, ◌||◌, nat_eq, nat_lt, nat_le, List, [], ◌∷◌}
use Rattle.batcher_types.proofs.Words.{length, get_or, set, take, drop, map, find, Some, None, is_some, Result, Ok, Err, refl, ap, sym, arith, nat_tests}
use Rattle.batcher_types.proofs.Words.{slice_get-get_or, ◌==◌, All, AllByRecursion, list_any, IsSearchInRange, IsBinarySearchResult, nat_cmp, insert_by, count}
use Rattle.batcher_types.proofs.Words.{is_some_and, rec_weaker, rec_from_all, all_from_rec}
use Rattle.std.specs.List.{slice_get}
use Rattle.batcher_types.specs.Ascending.{IsAscending}
use Rattle.batcher_types.specs.Items.{place_of, replace_by}
use Rattle.batcher_types.proofs.AscendingLemmas.{replace_at, find_at, found_key, lower, higher, searched_found, searched_absent}
use Rattle.batcher_types.proofs.OptionLemmas.{is_some-false}

found_of : (b : Bool) (n i : ℕ) → ◌≡◌ {A = Result ℕ ℕ} (cond b (Ok n) (Err n)) (Ok i) → (b ≡ true)
    × (n ≡ i)
found_of true n i h = (refl, cc)
found_of false n i h = absurd (cc)

absent_of : (b : Bool) (n i : ℕ) → ◌≡◌ {A = Result ℕ ℕ} (cond b (Ok n) (Err n)) (Err i)
    → (b ≡ false) × (n ≡ i)
absent_of true n i h = absurd (cc)
absent_of false n i h = (refl, cc)

one_more : (n : ℕ) → 1 + n ≡ suc n
one_more n = omega arith

-- No number is below 0.
pub none_below : (numbers : List ℕ) → count (λ s. nat_lt s 0) numbers ≡ 0
none_below [] = refl
none_below (n ∷ numbers) =
    let no : nat_lt n 0 ≡ false = grind (arith, nat_tests) in
    rw no (omega (arith, none_below numbers))

module _ {X : Type 0} (key : X → ℕ) where
  -- how many elements have a lower number
  abbrev pub lower_count : List X → ℕ → ℕ
  lower_count xs k = count (λ s. nat_lt s k) (map key xs)

  none_lower : (xs : List X) (k : ℕ) → AllByRecursion (λ x. k ≤ key x) xs → lower_count xs k ≡ 0
  none_lower [] k up = refl
  none_lower (x ∷ xs) k up = let no : nat_lt (key x) k ≡ false = grind (arith, nat_tests, up.0) in rw no (omega (arith, none_lower xs k up.1))

  count_within : (xs : List X) (k : ℕ) → lower_count xs k ≤ length xs
  count_within [] k = omega arith
  count_within (x ∷ xs) k = at_most (nat_lt (key x) k) (lower_count xs k) (length xs) (count_within xs k) where
    at_most : (b : Bool) (m n : ℕ) → m ≤ n → cond b 1 0 + m ≤ suc n
    at_most true m n h = omega (arith, h)
    at_most false m n h = omega (arith, h)

  any_found : (xs : List X) (k : ℕ) → list_any (λ s. s == k) (map key xs)
      ≡ is_some (find (λ x. nat_eq (key x) k) xs)
  any_found [] k = refl
  any_found (x ∷ xs) k = either (nat_eq (key x) k) (any_found xs k) where
    either : (b : Bool) → list_any (λ s. s == k) (map key xs)
        ≡ is_some (find (λ x. nat_eq (key x) k) xs) → (b || list_any (λ s. s == k) (map key xs))
        ≡ is_some (cond b (Some x) (find (λ x. nat_eq (key x) k) xs))
    either true e = refl
    either false e = e

  -- as many are lower as are before an element
  count_at : (xs : List X) (i k : ℕ) (d : X) → IsAscending key xs → i < length xs
      → key (get_or xs i d) ≡ k → lower_count xs k ≡ i
  unfolding IsAscending
  count_at [] i k d up below e = absurd (omega arith)
  count_at (y ∷ ys) zero k d up below e =
      let no : nat_lt (key y) k ≡ false = grind (arith, nat_tests) in
      let rest = none_lower ys k (rec_weaker (λ z. key y < key z) (λ z. k ≤ key z) (λ z lt. omega (arith, lt, e)) ys up.0) in
      rw no (omega (arith, rest))
  count_at (y ∷ ys) (suc i) k d up below e =
      let higher : key y < key (get_or ys i d) = all_from_rec (λ z. key y < key z) ys up.0 i d (omega arith) in
      let yes : nat_lt (key y) k ≡ true = grind (arith, nat_tests) in
      let rest = count_at ys i k d up.1 (omega arith) e in
      rw yes (omega (arith, rest))

  -- and before the place of a new one
  count_split : (xs : List X) (i k : ℕ) → i ≤ length xs
      → ((j : ℕ) (d : X) → j < i → key (get_or xs j d) < k)
      → ((j : ℕ) (d : X) → i ≤ j → j < length xs → k < key (get_or xs j d)) → lower_count xs k ≡ i
  count_split [] i k within before after = omega arith
  count_split (y ∷ ys) zero k within before after =
      let above : k < key y = after 0 y (omega arith) (omega arith) in
      let no : nat_lt (key y) k ≡ false = grind (arith, nat_tests) in
      let rest = count_split ys zero k (omega arith) (λ j d lt. absurd (omega arith)) (λ j d le lt. after (suc j) d (omega arith) (omega arith)) in
      rw no (omega (arith, rest))
  count_split (y ∷ ys) (suc i) k within before after =
      let below : key y < k = before 0 y (omega arith) in
      let yes : nat_lt (key y) k ≡ true = grind (arith, nat_tests) in
      let rest = count_split ys i k (omega arith) (λ j d lt. before (suc j) d (omega arith)) (λ j d le lt. after (suc j) d (omega arith) (omega arith)) in
      rw yes (omega (arith, rest))

  found_place : (xs : List X) (k i : ℕ) → IsAscending key xs → i < length xs
      → ((d : X) → find (λ x. nat_eq (key x) k) xs ≡ Some (get_or xs i d)) → Ok i
      ≡ place_of (map key xs) k
  unfolding place_of
  found_place [] k i up below found = absurd (omega arith)
  found_place (y ∷ ys) k i up below found =
      let some = any_found (y ∷ ys) k ∙ ap is_some (found y) in
      let at = count_at (y ∷ ys) i k y up below (found_key key (y ∷ ys) k (get_or (y ∷ ys) i y) (found y)) in
      rw (some, at)

  -- an element with the number is the one that is found, and is at its place
  pub item_place : (xs : List X) (k i : ℕ) → IsAscending key xs → i < length xs
      → ((d : X) → key (get_or xs i d) ≡ k) → Ok i ≡ place_of (map key xs) k
  item_place xs k i up below at =
      found_place xs k i up below (λ d. find_at key xs i k d up below (at d))

  absent_place : (xs : List X) (k i : ℕ) → lower_count xs k ≡ i → find (λ x. nat_eq (key x) k) xs
      ≡ None → Err i ≡ place_of (map key xs) k
  unfolding place_of
  absent_place xs k i at absent = let none = any_found xs k ∙ ap is_some absent in rw (none, at)

  -- what a search by halves answers is the place
  pub search_place : (xs : List X) (k : ℕ) (r : Result ℕ ℕ) → IsAscending key xs
      → IsSearchInRange r (length xs) → IsBinarySearchResult (λ y. nat_cmp (key y) k) xs r → r
      ≡ place_of (map key xs) k
  search_place xs k (Ok i) up within h = found_place xs k i up within (searched_found key xs k i up within h)
  search_place xs k (Err i) up within h =
      absent_place xs k i (count_split xs i k within (lower key xs k i within up h) (higher key xs k i within up h)) (searched_absent key xs k i within up h)

  -- the place behind all elements, where they are lower
  pub last_place : (xs : List X) (k : ℕ) → AllByRecursion (λ x. key x < k) xs
      → find (λ x. nat_eq (key x) k) xs ≡ None → Err (length xs) ≡ place_of (map key xs) k
  last_place xs k below absent = absent_place xs k (length xs) (all_lower xs below) absent where
    all_lower : (xs : List X) → AllByRecursion (λ x. key x < k) xs → lower_count xs k ≡ length xs
    all_lower [] below = refl
    all_lower (x ∷ xs) below =
        let yes : nat_lt (key x) k ≡ true = grind (arith, nat_tests, below.0) in
        let rest = all_lower xs below.1 in
        rw yes (omega (arith, rest))

  -- the place before all elements, where they are higher
  pub first_place : (xs : List X) (k : ℕ) → AllByRecursion (λ x. k < key x) xs
      → find (λ x. nat_eq (key x) k) xs ≡ None → Err 0 ≡ place_of (map key xs) k
  first_place xs k above absent =
      absent_place xs k 0 (none_lower xs k (rec_weaker (λ x. k < key x) (λ x. k ≤ key x) (λ x lt. omega (arith, lt)) xs above)) absent

  none_found : (xs : List X) (k : ℕ) → AllByRecursion (λ x. k < key x) xs
      → find (λ x. nat_eq (key x) k) xs ≡ None
  none_found [] k h = refl
  none_found (x ∷ xs) k h = let no : nat_eq (key x) k ≡ false = grind (arith, nat_tests, h.0) in rw no (none_found xs k h.1)

  at_count : (xs : List X) (k : ℕ) → IsAscending key xs → is_some (find (λ x. nat_eq (key x) k) xs)
      ≡ true → slice_get xs (lower_count xs k) ≡ find (λ x. nat_eq (key x) k) xs
  unfolding IsAscending
  at_count [] k up some = refl
  at_count (y ∷ ys) k up some = at_cons (nat_lt (key y) k) (nat_eq (key y) k) refl refl (at_count ys k up.1) some where
    at_cons : (lt eq : Bool) → nat_lt (key y) k ≡ lt → nat_eq (key y) k ≡ eq
        → (is_some (find (λ x. nat_eq (key x) k) ys) ≡ true → slice_get ys (lower_count ys k)
        ≡ find (λ x. nat_eq (key x) k) ys)
        → is_some (cond eq (Some y) (find (λ x. nat_eq (key x) k) ys)) ≡ true
        → slice_get (y ∷ ys) (cond lt 1 0 + lower_count ys k)
        ≡ cond eq (Some y) (find (λ x. nat_eq (key x) k) ys)
    at_cons true true elt eeq rest some = absurd (grind (arith, nat_tests))
    at_cons true false elt eeq rest some = ap (λ n. slice_get (y ∷ ys) n) (one_more (lower_count ys k)) ∙ rest some
    at_cons false true elt eeq rest some =
        let from : k ≤ key y = grind (arith, nat_tests) in
        rw (none_lower ys k (rec_weaker (λ z. key y < key z) (λ z. k ≤ key z) (λ z lt. omega (arith, lt, from)) ys up.0))
    at_cons false false elt eeq rest some =
        let above : k < key y = grind (arith, nat_tests) in
        let none = rw (none_found ys k (rec_weaker (λ z. key y < key z) (λ z. k < key z) (λ z lt. omega (arith, lt, above)) ys up.0)) at some in
        absurd (cc)

  -- at the place of an element it is found
  pub place_found : (xs : List X) (k i : ℕ) → IsAscending key xs → place_of (map key xs) k ≡ Ok i
      → slice_get xs i ≡ find (λ x. nat_eq (key x) k) xs
  unfolding place_of
  place_found xs k i up is =
      let both = found_of _ _ i is in
      rw (← both.1) (at_count xs k up (sym (any_found xs k) ∙ both.0))

  -- The element before which all lower ones are has the number, if any has.
  after_test : (xs : List X) (k : ℕ) → IsAscending key xs
      → is_some_and (slice_get xs (lower_count xs k)) (λ x. key x == k)
      ≡ list_any (λ s. s == k) (map key xs)
  unfolding IsAscending
  after_test [] k up = refl
  after_test (y ∷ ys) k up = after_cons (nat_lt (key y) k) (nat_eq (key y) k) refl refl (after_test ys k up.1) where
    after_cons : (lt eq : Bool) → nat_lt (key y) k ≡ lt → nat_eq (key y) k ≡ eq
        → is_some_and (slice_get ys (lower_count ys k)) (λ x. key x == k)
        ≡ list_any (λ s. s == k) (map key ys)
        → is_some_and (slice_get (y ∷ ys) (cond lt 1 0 + lower_count ys k)) (λ x. key x == k)
        ≡ (eq || list_any (λ s. s == k) (map key ys))
    after_cons true true elt eeq rest = absurd (grind (arith, nat_tests))
    after_cons true false elt eeq rest = ap (λ n. is_some_and (slice_get (y ∷ ys) n) (λ x. key x == k)) (one_more (lower_count ys k)) ∙ rest
    after_cons false true elt eeq rest =
        let from : k ≤ key y = grind (arith, nat_tests) in
        rw (none_lower ys k (rec_weaker (λ z. key y < key z) (λ z. k ≤ key z) (λ z lt. omega (arith, lt, from)) ys up.0)) eeq
    after_cons false false elt eeq rest =
        let above : k < key y = grind (arith, nat_tests) in
        let none = none_found ys k (rec_weaker (λ z. key y < key z) (λ z. k < key z) (λ z lt. omega (arith, lt, above)) ys up.0) in
        rw (none_lower ys k (rec_weaker (λ z. key y < key z) (λ z. k ≤ key z) (λ z lt. omega (arith, lt, above)) ys up.0))
        (eeq ∙ sym (any_found ys k ∙ ap is_some none))

  -- One more is below the next number where one has the number.
  after_next : (xs : List X) (k : ℕ) → IsAscending key xs
      → lower_count xs (k + 1) ≡ lower_count xs k + cond (list_any (λ s. s == k) (map key xs)) 1 0
  unfolding IsAscending
  after_next [] k up = refl
  after_next (y ∷ ys) k up = next_cons (nat_lt (key y) k) (nat_eq (key y) k) refl refl (after_next ys k up.1) where
    next_cons : (lt eq : Bool) → nat_lt (key y) k ≡ lt → nat_eq (key y) k ≡ eq
        → lower_count ys (k + 1) ≡ lower_count ys k + cond (list_any (λ s. s == k) (map key ys)) 1 0
        → cond (nat_lt (key y) (k + 1)) 1 0 + lower_count ys (k + 1)
        ≡ cond lt 1 0 + lower_count ys k + cond (eq || list_any (λ s. s == k) (map key ys)) 1 0
    next_cons true true elt eeq rest = absurd (grind (arith, nat_tests))
    next_cons true false elt eeq rest =
        let yes : nat_lt (key y) (k + 1) ≡ true = grind (arith, nat_tests) in
        rw yes (omega (arith, rest))
    next_cons false true elt eeq rest =
        let yes : nat_lt (key y) (k + 1) ≡ true = grind (arith, nat_tests) in
        let from : k ≤ key y = grind (arith, nat_tests) in
        let none = none_lower ys k (rec_weaker (λ z. key y < key z) (λ z. k ≤ key z) (λ z lt. omega (arith, lt, from)) ys up.0) in
        let still = none_lower ys (k + 1) (rec_weaker (λ z. key y < key z) (λ z. k + 1 ≤ key z) (λ z lt. omega (arith, lt, from)) ys up.0) in
        rw yes (omega (arith, none, still))
    next_cons false false elt eeq rest =
        let no : nat_lt (key y) (k + 1) ≡ false = grind (arith, nat_tests) in
        rw no (omega (arith, rest))

  -- so one look there gives the place, and how many are below the next number
  module _ (xs : List X) (k i : ℕ) (is_there : Bool) (up : IsAscending key xs)
      (at : i ≡ count (λ s. nat_lt s k) (map key xs))
      (test : is_there ≡ is_some_and (slice_get xs i) (λ x. key x == k)) where
    any_there : is_there ≡ list_any (λ s. s == k) (map key xs)
    any_there = test ∙ ap (λ n. is_some_and (slice_get xs n) (λ x. key x == k)) at ∙ after_test xs k up

    pub look_place : cond is_there (Ok i) (Err i) ≡ place_of (map key xs) k
    unfolding place_of
    look_place = rw (any_there, at) refl

    pub look_next : count (λ s. nat_lt s (k + 1)) (map key xs) ≡ i + cond is_there 1 0
    look_next = rw (any_there, at) (after_next xs k up)

  below_any : (xs : List X) (k : ℕ) → list_any (λ s. s == k) (map key xs) ≡ true → lower_count xs k
      < length xs
  below_any [] k some = absurd (cc)
  below_any (x ∷ xs) k some = below_cons (nat_lt (key x) k) (nat_eq (key x) k) refl refl (below_any xs k) some where
    below_cons : (lt eq : Bool) → nat_lt (key x) k ≡ lt → nat_eq (key x) k ≡ eq
        → (list_any (λ s. s == k) (map key xs) ≡ true → lower_count xs k < length xs)
        → (eq || list_any (λ s. s == k) (map key xs)) ≡ true → cond lt 1 0 + lower_count xs k
        < suc (length xs)
    below_cons true true elt eeq rest some = absurd (grind (arith, nat_tests))
    below_cons true false elt eeq rest some = let fewer = rest some in omega (arith, fewer)
    below_cons false eq elt eeq rest some = let within = count_within xs k in omega (arith, within)

  pub place_below : (xs : List X) (k i : ℕ) → place_of (map key xs) k ≡ Ok i → i < length xs
  unfolding place_of
  place_below xs k i is =
      let both = found_of _ _ i is in
      let at = both.1 in
      let below = below_any xs k both.0 in
      omega (arith, at, below)

  -- the same by an index that is in range
  pub place_item : (xs : List X) (k i : ℕ) (d : X) → IsAscending key xs → place_of (map key xs) k
      ≡ Ok i → find (λ x. nat_eq (key x) k) xs ≡ Some (get_or xs i d)
  place_item xs k i d up is = sym (place_found xs k i up is) ∙ slice_get-get_or xs i d (place_below xs k i is)

  -- a place where an element would be shows that there is none
  pub place_absent : (xs : List X) (k i : ℕ) → place_of (map key xs) k ≡ Err i
      → find (λ x. nat_eq (key x) k) xs ≡ None
  unfolding place_of
  place_absent xs k i is = is_some-false _ (sym (any_found xs k) ∙ (absent_of _ _ i is).0)

  pub place_within : (xs : List X) (k i : ℕ) → place_of (map key xs) k ≡ Err i → i ≤ length xs
  unfolding place_of
  place_within xs k i is = let at = (absent_of _ _ i is).1 in omega (arith, at, count_within xs k)

  insert_at_count : (x : X) (xs : List X) → IsAscending key xs → take (lower_count xs (key x)) xs
      ++ x ∷ drop (lower_count xs (key x)) xs ≡ insert_by key x xs
  unfolding IsAscending
  insert_at_count x [] up = refl
  insert_at_count x (y ∷ ys) up = insert_cons (nat_lt (key y) (key x)) (nat_le (key x) (key y)) refl refl (insert_at_count x ys up.1) where
    insert_cons : (lt le : Bool) → nat_lt (key y) (key x) ≡ lt → nat_le (key x) (key y) ≡ le
        → take (lower_count ys (key x)) ys ++ x ∷ drop (lower_count ys (key x)) ys
        ≡ insert_by key x ys
        → take (cond lt 1 0 + lower_count ys (key x)) (y ∷ ys)
        ++ x ∷ drop (cond lt 1 0 + lower_count ys (key x)) (y ∷ ys)
        ≡ cond le (x ∷ y ∷ ys) (y ∷ insert_by key x ys)
    insert_cons true true elt ele rest = absurd (grind (arith, nat_tests))
    insert_cons true false elt ele rest = ap (λ n. take n (y ∷ ys) ++ x ∷ drop n (y ∷ ys)) (one_more (lower_count ys (key x))) ∙ ap (λ zs. y ∷ zs) rest
    insert_cons false true elt ele rest =
        let from : key x ≤ key y = grind (arith, nat_tests) in
        rw (none_lower ys (key x) (rec_weaker (λ z. key y < key z) (λ z. key x ≤ key z) (λ z lt. omega (arith, lt, from)) ys up.0))
    insert_cons false false elt ele rest = absurd (grind (arith, nat_tests))

  -- an insert there keeps the order
  pub place_insert : (x : X) (xs : List X) (i : ℕ) → IsAscending key xs
      → place_of (map key xs) (key x) ≡ Err i → take i xs ++ x ∷ drop i xs ≡ insert_by key x xs
  unfolding place_of
  place_insert x xs i up is = rw (← (absent_of _ _ i is).1) (insert_at_count x xs up)

  place_some : (xs : List X) (k : ℕ) (x : X) → find (λ y. nat_eq (key y) k) xs ≡ Some x
      → place_of (map key xs) k ≡ Ok (lower_count xs k)
  unfolding place_of
  place_some xs k x h = let some = any_found xs k ∙ ap is_some h in rw some

  -- as many elements are before one as are lower
  pub rank_below : (xs : List X) (k : ℕ) (x : X) → find (λ y. nat_eq (key y) k) xs ≡ Some x
      → lower_count xs k < length xs
  rank_below xs k x h = place_below xs k (lower_count xs k) (place_some xs k x h)

  rank_item : (xs : List X) (k : ℕ) (x d : X) → IsAscending key xs
      → find (λ y. nat_eq (key y) k) xs ≡ Some x
      → find (λ y. nat_eq (key y) k) xs ≡ Some (get_or xs (lower_count xs k) d)
  rank_item xs k x d up h = place_item xs k (lower_count xs k) d up (place_some xs k x h)

  pub rank_is : (xs : List X) (k : ℕ) (x d : X) → IsAscending key xs
      → find (λ y. nat_eq (key y) k) xs ≡ Some x → get_or xs (lower_count xs k) d ≡ x
  rank_is xs k x d up h = let both = sym (rank_item xs k x d up h) ∙ h in cc

  -- a replacement is a write there
  pub rank_replace : (xs : List X) (k : ℕ) (x old : X) → IsAscending key xs
      → find (λ y. nat_eq (key y) k) xs ≡ Some old → key x ≡ k
      → replace_by key x xs ≡ set xs (lower_count xs k) x
  unfolding replace_by
  rank_replace xs k x old up h same =
      sym (replace_at key xs (lower_count xs k) x x up (rank_below xs k old h)
      (ap key (rank_is xs k old x up h) ∙ found_key key xs k old h ∙ sym same))

-- The numbers from one on and below another are no more than what lies between.
ascending_within : {E : Type 0} (key : E → ℕ) (es : List E) (first end : ℕ) → first ≤ end
    → IsAscending key es → AllByRecursion (λ e. first ≤ key e) es
    → AllByRecursion (λ e. key e < end) es → first + length es ≤ end
unfolding IsAscending
ascending_within key [] first end le up from below = omega (arith, le)
ascending_within key (e ∷ es) first end le up from below =
    let rest = ascending_within key es (suc (key e)) end (omega (arith, below.0)) up.1
    (rec_weaker (λ x. key e < key x) (λ x. suc (key e) ≤ key x) (λ x lt. omega (arith, lt)) es up.0) below.1 in
    omega (arith, rest, from.0)

pub ascending_few : {E : Type 0} (key : E → ℕ) (es : List E) (end : ℕ) → IsAscending key es
    → All (λ e. key e < end) es → length es ≤ end
ascending_few key es end up below =
    let within = ascending_within key es 0 end (omega arith) up (all_zero es) (rec_from_all (λ e. key e < end) es below) in
    omega (arith, within) where
      all_zero : (es : List _) → AllByRecursion (λ e. 0 ≤ key e) es
      all_zero [] = tt
      all_zero (e ∷ es) = (omega arith, all_zero es)
