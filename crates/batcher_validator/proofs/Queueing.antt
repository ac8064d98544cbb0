-- Items of which the first were given go on: one more is given, more are put behind them, or some
-- are over.
use Rattle.batcher_validator.proofs.Words.{◌≡◌, ◌⊎◌, ◌+◌, ◌<◌, ◌≤◌, ◌++◌, ◌∙◌, ℕ, zero, suc, Bool, true, false, List, [], ◌∷◌, Some, ap, arith, drop}
use Rattle.batcher_validator.proofs.Words.{inl, inr, length, refl, subst, sym, take, Contains, count_by, filter, slice_get, take-append_seam, take-suc}
use Rattle.batcher_validator.proofs.Words.{length-append, take-append-drop, take-append-le, All-contains, All-contains_itself, All-filter}
use Rattle.batcher_validator.proofs.Words.{Contains-append_cases, Contains-append_left, Contains-append_right, length-filter, get_or_from_slice_get}
use Rattle.batcher_validator.proofs.Words.{slice_get_within, contains_filter, unwrap_or, AreDistinct, AreFirst, HasKey}

module _ {X : Type 0} where
  -- the first elements and the one behind them
  pub one_more :
      (xs : List X) (i : ℕ) (x : X) → slice_get xs i ≡ Some x
      → take (i + 1) xs ≡ take i xs ++ x ∷ []
  one_more xs i x there =
      let lt : i < length xs = slice_get_within xs i x there in
      let count : i + 1 ≡ suc i = omega arith in
      ap (λ n. take n xs) count ∙ take-suc xs i x lt
      ∙ ap (λ y. take i xs ++ y ∷ []) (get_or_from_slice_get xs i x x there)

  pub contains_one : (x y : X) → Contains (x ∷ []) y → x ≡ y
  contains_one x y (zero, lt, is) = is
  contains_one x y (suc i, lt, is) = absurd (omega arith)

  module _ (p : X → Bool) where
    one_filtered : (x : X) (xs ys : List X) → filter p (xs ++ ys) ≡ filter p xs ++ filter p ys
        → (b : Bool) → p x ≡ b → filter p (x ∷ xs ++ ys) ≡ filter p (x ∷ xs) ++ filter p ys
    one_filtered x xs ys rest true e = rw (e) (ap (λ zs. x ∷ zs) rest)
    one_filtered x xs ys rest false e = rw (e) (rest)

    filter_append : (xs ys : List X) → filter p (xs ++ ys) ≡ filter p xs ++ filter p ys
    filter_append [] ys = refl
    filter_append (x ∷ xs) ys = one_filtered x xs ys (filter_append xs ys) (p x) refl

    filter_parts : (n : ℕ) (xs : List X)
        → filter p xs ≡ filter p (take n xs) ++ filter p (drop n xs)
    filter_parts n xs =
        ap (λ zs. filter p zs) (sym (take-append-drop n xs)) ∙ filter_append (take n xs) (drop n xs)

    -- of the first elements those that are left are the first that are left
    first_left : (n : ℕ) (xs : List X)
        → take (count_by p (take n xs)) (filter p xs) ≡ filter p (take n xs)
    first_left n xs =
        ap (λ k. take k (filter p xs)) (sym (length-filter p (take n xs)))
        ∙ ap (λ zs. take (length (filter p (take n xs))) zs) (filter_parts n xs)
        ∙ take-append_seam (filter p (take n xs)) (filter p (drop n xs))

    first_within : (n : ℕ) (xs : List X) → count_by p (take n xs) ≤ length (filter p xs)
    first_within n xs =
        omega (
          arith,
          length-filter p (take n xs),
          ap length (filter_parts n xs),
          length-append (filter p (take n xs)) (filter p (drop n xs)),
        )

    pub left_are : (xs : List X) (x : X) → Contains (filter p xs) x → Contains xs x
    left_are xs x there =
        All-contains (Contains xs) (filter p xs) x (All-filter p (Contains xs) xs (All-contains_itself xs)) there

-- the one at a place is among the first, of which there are more
pub contained_first :
    {X : Type 0} (xs : List X) (i n : ℕ) (x : X) → slice_get xs i ≡ Some x → i < n
    → Contains (take n xs) x
contained_first [] i n x there lt = absurd cc
contained_first (y ∷ ys) zero zero x there lt = absurd (omega (arith, lt))
contained_first (y ∷ ys) zero (suc n) x there lt =
    (0, omega arith, ap (λ o. unwrap_or o x) there)
contained_first (y ∷ ys) (suc i) zero x there lt = absurd (omega (arith, lt))
contained_first (y ∷ ys) (suc i) (suc n) x there lt =
    let it = contained_first ys i n x there (omega (arith, lt)) in
    (suc it.0, omega (arith, it.1), it.2)

-- the first ones are among the first, of which there are no fewer
pub contained_more :
    {X : Type 0} (xs : List X) (n m : ℕ) (x : X) → n ≤ m → Contains (take n xs) x
    → Contains (take m xs) x
contained_more [] zero m x le there = absurd (omega (arith, there.1))
contained_more [] (suc n) m x le there = absurd (omega (arith, there.1))
contained_more (y ∷ ys) zero m x le there = absurd (omega (arith, there.1))
contained_more (y ∷ ys) (suc n) zero x le there = absurd (omega (arith, le))
contained_more (y ∷ ys) (suc n) (suc m) x le (zero, lt, is) = (0, omega arith, is)
contained_more (y ∷ ys) (suc n) (suc m) x le (suc k, lt, is) =
    let it = contained_more ys n m x (omega (arith, le)) (k, omega (arith, lt), is) in
    (suc it.0, omega (arith, it.1), it.2)

-- one of the first is at one of the first places
pub at_place :
    {X : Type 0} (xs : List X) (n : ℕ) (x : X) → Contains (take n xs) x
    → (i : ℕ) × ((i < n) × (slice_get xs i ≡ Some x))
at_place [] zero x there = absurd (omega (arith, there.1))
at_place [] (suc n) x there = absurd (omega (arith, there.1))
at_place (y ∷ ys) zero x there = absurd (omega (arith, there.1))
at_place (y ∷ ys) (suc n) x (zero, lt, is) = (0, (omega arith, ap Some is))
at_place (y ∷ ys) (suc n) x (suc k, lt, is) =
    let it = at_place ys n x (k, omega (arith, lt), is) in
    (suc it.0, (omega (arith, it.1.0), it.1.1))

pub key_is : {A B : Type 0} (a b : A) (x y : B) → a ≡ b → x ≡ y
    → ◌≡◌ {A = A × B} (a, x) (b, y)
key_is {A = A} {B = B} a b x y e f = ap first e ∙ ap second f
  where
    first : A → A × B
    first c = (c, x)

    second : B → A × B
    second z = (b, z)

module _ {X Y : Type 0} (key : X → Y) (is_over : Y → Bool) (WasGiven : Y → Type 0) (items : List X)
    (count : ℕ) (are : AreFirst key is_over WasGiven items count) where
  -- one that has a key of its own, and isn't over, wasn't given
  pub not_given :
      (x : X) → is_over (key x) ≡ false
      → ((w : X) → Contains (take count items) w → key w ≡ key x → ⊥)
      → WasGiven (key x) → ⊥
  not_given x above differs was =
      let it = are.no_others (key x) was above in
      differs it.item it.there it.is_of

  -- one more is given,
  pub give_one :
      (NowGiven : Y → Type 0) (x : X) → slice_get items count ≡ Some x → NowGiven (key x)
      → ((y : Y) → WasGiven y → NowGiven y)
      → ((y : Y) → NowGiven y → (key x ≡ y) ⊎ WasGiven y)
      → AreFirst key is_over NowGiven items (count + 1)
  give_one NowGiven x there now still only =
      let lt : count < length items = slice_get_within items count x there in
      let more : take (count + 1) items ≡ take count items ++ x ∷ [] = one_more items count x there in
      record {
        within = omega (arith, lt);
        were_given = λ w first. of_cases w
            (Contains-append_cases (take count items) (x ∷ []) w (subst (λ xs. Contains xs w) more first));
        no_others = λ y was above. subst (λ xs. HasKey key xs y) (sym more) (has_key y above (only y was));
      }
    where
      of_cases : (w : X) → Contains (take count items) w ⊎ Contains (x ∷ []) w → NowGiven (key w)
      of_cases w (inl first) = still (key w) (are.were_given w first)
      of_cases w (inr last) = subst (λ z. NowGiven (key z)) (contains_one x w last) now

      has_key : (y : Y) → is_over y ≡ false → (key x ≡ y) ⊎ WasGiven y
          → HasKey key (take count items ++ x ∷ []) y
      has_key y above (inl is) =
          record {
            item = x;
            there = Contains-append_right (take count items) (x ∷ []) x (0, omega arith, refl);
            is_of = is;
          }
      has_key y above (inr was) =
          let it = are.no_others y was above in
          record {
            item = it.item;
            there = Contains-append_left (take count items) (x ∷ []) it.item it.there;
            is_of = it.is_of;
          }

  -- more are put behind them,
  pub put_behind : (more : List X) → AreFirst key is_over WasGiven (items ++ more) count
  put_behind more =
      let first : take count (items ++ more) ≡ take count items = take-append-le count items more are.within in
      record {
        within = omega (arith, are.within, length-append items more);
        were_given = λ x there. are.were_given x (subst (λ xs. Contains xs x) first there);
        no_others = λ y was above. subst (λ xs. HasKey key xs y) (sym first) (are.no_others y was above);
      }

  -- or more are over.
  pub leave :
      (now_over : Y → Bool) (stays : X → Bool)
      → ((y : Y) → now_over y ≡ false → is_over y ≡ false)
      → ((x : X) → now_over (key x) ≡ false → stays x ≡ true)
      → AreFirst key now_over WasGiven (filter stays items) (count_by stays (take count items))
  leave now_over stays above_before stay =
      let first = first_left stays count items in
      record {
        within = first_within stays count items;
        were_given = λ x there. are.were_given x
            (left_are stays (take count items) x (subst (λ xs. Contains xs x) first there));
        no_others = λ y was above. subst (λ xs. HasKey key xs y) (sym first)
            (left y above (are.no_others y was (above_before y above)));
      }
    where
      left : (y : Y) → now_over y ≡ false → HasKey key (take count items) y
          → HasKey key (filter stays (take count items)) y
      left y above it =
          record {
            item = it.item;
            there = contains_filter stays (take count items) it.item it.there
                (stay it.item (subst (λ z. now_over z ≡ false) (sym it.is_of) above));
            is_of = it.is_of;
          }

-- Each item has a key of its own.
module _ {X Y : Type 0} (key : X → Y) where
  pub before_differ :
      (items : List X) (i : ℕ) (x : X) → AreDistinct key items → slice_get items i ≡ Some x
      → (w : X) → Contains (take i items) w → key w ≡ key x → ⊥
  before_differ [] i x are there w first same = absurd (omega (arith, slice_get_within [] i x there))
  before_differ (y ∷ items) zero x are there w (j, lt, is) same = absurd (omega arith)
  before_differ (y ∷ items) (suc i) x are there w (zero, lt, is) same =
      are.0 (record {
        item = x;
        there = (
          i,
          slice_get_within items i x there,
          get_or_from_slice_get items i x x there,
        );
        is_of = sym same ∙ ap key (sym is);
      })
  before_differ (y ∷ items) (suc i) x are there w (suc j, lt, is) same =
      before_differ items i x are.1 there w (j, omega arith, is) same

  one_behind :
      (items : List X) (x : X) (y : Y) → HasKey key (items ++ x ∷ []) y
      → HasKey key items y ⊎ (key x ≡ y)
  one_behind items x y has = of_cases (Contains-append_cases items (x ∷ []) has.item has.there)
    where
      of_cases : Contains items has.item ⊎ Contains (x ∷ []) has.item
          → HasKey key items y ⊎ (key x ≡ y)
      of_cases (inl there) = inl (record { item = has.item; there = there; is_of = has.is_of })
      of_cases (inr last) = inr (ap key (contains_one x has.item last) ∙ has.is_of)

  pub distinct_behind :
      (items : List X) (x : X) → AreDistinct key items → (HasKey key items (key x) → ⊥)
      → AreDistinct key (items ++ x ∷ [])
  distinct_behind [] x are none = ((λ has. no_key has), tt)
    where
      nothing : (w : X) → Contains [] w → ⊥
      nothing w (i, lt, is) = absurd (omega arith)

      no_key : HasKey key [] (key x) → ⊥
      no_key has = nothing has.item has.there
  distinct_behind (y ∷ items) x are none = (
    λ has. of_cases (one_behind items x (key y) has),
    distinct_behind items x are.1 (λ has. none (record {
      item = has.item;
      there = Contains-append_right (y ∷ []) items has.item has.there;
      is_of = has.is_of;
    })),
  )
    where
      of_cases : HasKey key items (key y) ⊎ (key x ≡ key y) → ⊥
      of_cases (inl has) = are.0 has
      of_cases (inr same) = none (record { item = y; there = (0, omega arith, refl); is_of = sym same })

  pub distinct_left : (p : X → Bool) (items : List X) → AreDistinct key items
      → AreDistinct key (filter p items)
  distinct_left p [] are = tt
  distinct_left p (x ∷ items) are = of_bool (p x) refl (distinct_left p items are.1)
    where
      of_bool : (b : Bool) → p x ≡ b → AreDistinct key (filter p items)
          → AreDistinct key (filter p (x ∷ items))
      of_bool true e rest = rw (e) (
        λ has. are.0 (record {
          item = has.item;
          there = left_are p items has.item has.there;
          is_of = has.is_of;
        }),
        rest,
      )
      of_bool false e rest = rw (e) rest
