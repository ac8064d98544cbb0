-- Certificates that are given again come behind the others that were given.
use Rattle.batcher_validator.proofs.Words.{◌≡◌, ◌⊎◌, ◌+◌, ◌<◌, ◌≤◌, ◌++◌, ◌∙◌, ℕ, zero, suc, Bool, true, false, List, [], ◌∷◌, Some, ap, arith, drop, get_or}
use Rattle.batcher_validator.proofs.Words.{inl, inr, length, min, refl, subst, sym, take, Contains, IsPermutation, swap, slice_get, cases_lt}
use Rattle.batcher_validator.proofs.Words.{Swapped, swapped_from_swap}
use Rattle.batcher_validator.proofs.Words.{length-swap, length_permutation, Contains-permutation}
use Rattle.batcher_validator.proofs.Words.{IsPermutation-keeps, IsPermutation-sym, get_or_from_slice_get, slice_get_within}
use Rattle.batcher_validator.proofs.Words.{slice_get-get_or, AreDistinct, AreFirst, AreKept, AreParted, HasKey, PutsBehind, ShelfView, Certificate, Kind}
use Rattle.batcher_validator.proofs.Words.{kind_and_round, NodeConfig, Round, ValidatorHistory, again}
use Rattle.batcher_validator.proofs.Queueing.{at_place, before_differ, contained_first}

same_or_not : (i j : ℕ) → (i ≡ j) ⊎ (i ≡ j → ⊥)
same_or_not i j = elim (cases_lt i j) [
  | inl below ↦ inr (λ e. absurd (omega (arith, below, e)))
  | inr up ↦ elim (cases_lt j i) [
    | inl above ↦ inr (λ e. absurd (omega (arith, above, e)))
    | inr down ↦ inl (omega (arith, up, down))
  ]
]

-- where what is at a place was, when two were in each other's
abbrev Was : ℕ → ℕ → ℕ → ℕ → Type 0
Was a b i k =
    ((i ≡ a) × (k ≡ b)) ⊎ (((i ≡ b) × (k ≡ a)) ⊎ (((i ≡ a → ⊥) × (i ≡ b → ⊥)) × (k ≡ i)))

one_place : (a b i j k : ℕ) → Was a b i k → Was a b j k → i ≡ j
one_place a b i j k (inl one) (inl two) = omega (arith, one.0, two.0)
one_place a b i j k (inl one) (inr (inl two)) = omega (arith, one.0, one.1, two.0, two.1)
one_place a b i j k (inl one) (inr (inr two)) = absurd (two.0.1 (omega (arith, one.1, two.1)))
one_place a b i j k (inr (inl one)) (inl two) = omega (arith, one.0, one.1, two.0, two.1)
one_place a b i j k (inr (inl one)) (inr (inl two)) = omega (arith, one.0, two.0)
one_place a b i j k (inr (inl one)) (inr (inr two)) = absurd (two.0.0 (omega (arith, one.1, two.1)))
one_place a b i j k (inr (inr one)) (inl two) = absurd (one.0.1 (omega (arith, two.1, one.1)))
one_place a b i j k (inr (inr one)) (inr (inl two)) = absurd (one.0.0 (omega (arith, two.1, one.1)))
one_place a b i j k (inr (inr one)) (inr (inr two)) = omega (arith, one.1, two.1)

module _ {X Y : Type 0} (key : X → Y) where
  -- no two places have one key
  abbrev AreApart : List X → Type 0
  AreApart xs =
      (i j : ℕ) (x y : X) → slice_get xs i ≡ Some x → slice_get xs j ≡ Some y → key x ≡ key y
      → i ≡ j

  apart : (xs : List X) → AreDistinct key xs → AreApart xs
  apart xs are i j x y here there same = elim (cases_lt i j) [
    | inl below ↦ absurd (before_differ key xs j y are there x (contained_first xs i j x here below) same)
    | inr up ↦ elim (cases_lt j i) [
      | inl above ↦ absurd (before_differ key xs i x are here y (contained_first xs j i y there above) (sym same))
      | inr down ↦ omega (arith, up, down)
    ]
  ]

  distinct : (xs : List X) → AreApart xs → AreDistinct key xs
  distinct [] are = tt
  distinct (x ∷ xs) are = (
    λ has. absurd (no_zero has.there.0 (are 0 (suc has.there.0) x has.item refl
        (slice_get-get_or xs has.there.0 has.item has.there.1 ∙ ap Some has.there.2) (sym has.is_of))),
    distinct xs (λ i j a b here there same. omega (arith, are (suc i) (suc j) a b here there same)),
  )
    where
      no_zero : (k : ℕ) → 0 ≡ suc k → ⊥
      no_zero k e = absurd (omega (arith, e))

  module _ (xs : List X) (a b : ℕ) (a_in : a < length xs) (b_in : b < length xs) where
    came : (i : ℕ) (x : X) → slice_get (swap xs a b) i ≡ Some x
        → (k : ℕ) × ((slice_get xs k ≡ Some x) × Was a b i k)
    came i x there =
        elim (same_or_not i a) [
          | inl is_a ↦ (
            b,
            (
              slice_get-get_or xs b x b_in ∙ ap Some (sym moved.0 ∙ ap (λ n. get_or (swap xs a b) n x) (sym is_a) ∙ here),
              inl (is_a, refl),
            ),
          )
          | inr not_a ↦ elim (same_or_not i b) [
            | inl is_b ↦ (
              a,
              (
                slice_get-get_or xs a x a_in ∙ ap Some (sym moved.1 ∙ ap (λ n. get_or (swap xs a b) n x) (sym is_b) ∙ here),
                inr (inl (is_b, refl)),
              ),
            )
            | inr not_b ↦ (
              i,
              (
                slice_get-get_or xs i x i_in ∙ ap Some (sym (moved.2 i not_a not_b) ∙ here),
                inr (inr ((not_a, not_b), refl)),
              ),
            )
          ]
        ]
      where
        moved : Swapped (λ n. get_or xs n x) (λ n. get_or (swap xs a b) n x) a b
        moved = swapped_from_swap xs (swap xs a b) a b x a_in b_in refl

        here : get_or (swap xs a b) i x ≡ x
        here = get_or_from_slice_get (swap xs a b) i x x there

        i_in : i < length xs
        i_in = omega (arith, slice_get_within (swap xs a b) i x there, length-swap xs a b)

    distinct_swapped : AreDistinct key xs → AreDistinct key (swap xs a b)
    distinct_swapped are = distinct (swap xs a b) (λ i j x y here there same.
        let at_i = came i x here in
        let at_j = came j y there in
        let one : at_j.0 ≡ at_i.0 = sym (apart xs are at_i.0 at_j.0 x y at_i.1.0 at_j.1.0 same) in
        one_place a b i j at_i.0 at_i.1.1 (subst (λ k. Was a b j k) one at_j.1.1))

  pub distinct_moved : (xs ys : List X) → IsPermutation xs ys → AreDistinct key xs
      → AreDistinct key ys
  distinct_moved xs ys moves are =
      IsPermutation-keeps xs (λ zs. AreDistinct key zs) are
      (λ zs i j i_in j_in was. distinct_swapped zs i j i_in j_in was) ys moves

  -- an item of a key is still there
  pub key_moved : (xs ys : List X) → IsPermutation xs ys → (y : Y) → HasKey key xs y
      → HasKey key ys y
  key_moved xs ys moves y has =
      record {
        item = has.item;
        there = Contains-permutation xs ys has.item moves has.there;
        is_of = has.is_of;
      }

-- As one looks at one item after another, those that are to be behind are put there.
module _ {X : Type 0} (is_behind : X → Bool) (xs : List X) where
  module _ (end count : ℕ) (are : AreParted is_behind xs end count) where
    pub part_behind : ((x : X) → is_behind (get_or xs end x) ≡ true)
        → AreParted is_behind xs (end + 1) count
    part_behind here =
        record {
          within = omega (arith, are.within);
          stay = are.stay;
          others = λ i x from lt. elim (cases_lt i end) [
            | inl below ↦ are.others i x from below
            | inr up ↦ subst (λ n. is_behind (get_or xs n x) ≡ true) (omega (arith, lt, up)) (here x)
          ];
        }

    pub part_before :
        end < length xs → ((x : X) → is_behind (get_or xs end x) ≡ false)
        → AreParted is_behind (swap xs count end) (end + 1) (count + 1)
    part_before in_xs here =
        record {
          within = omega (arith, are.within);
          stay = λ i x lt. elim (cases_lt i count) [
            | inl below ↦ subst (λ y. is_behind y ≡ false)
                (sym ((moved x).2 i (λ e. absurd (omega (arith, below, e))) (λ e. absurd (omega (arith, below, are.within, e)))))
                (are.stay i x below)
            | inr up ↦ subst (λ n. is_behind (get_or (swap xs count end) n x) ≡ false) (omega (arith, lt, up))
                (subst (λ y. is_behind y ≡ false) (sym (moved x).0) (here x))
          ];
          others = λ i x from lt. elim (cases_lt i end) [
            | inl below ↦ subst (λ y. is_behind y ≡ true)
                (sym ((moved x).2 i (λ e. absurd (omega (arith, from, e))) (λ e. absurd (omega (arith, below, e)))))
                (are.others i x (omega (arith, from)) below)
            | inr up ↦ subst (λ n. is_behind (get_or (swap xs count end) n x) ≡ true) (omega (arith, lt, up))
                (subst (λ y. is_behind y ≡ true) (sym (moved x).1)
                (are.others count x (omega arith) (omega (arith, from, lt))))
          ];
        }
      where
        moved : (x : X)
            → Swapped (λ n. get_or xs n x) (λ n. get_or (swap xs count end) n x) count end
        moved x = swapped_from_swap xs (swap xs count end) count end x (omega (arith, are.within, in_xs)) in_xs refl

-- Behind the end nothing changes.
pub behind_swapped :
    {X : Type 0} (xs : List X) (a b end i : ℕ) (x : X) → a < end → b < end → end ≤ length xs
    → end ≤ i → get_or (swap xs a b) i x ≡ get_or xs i x
behind_swapped xs a b end i x a_in b_in within from =
    moved.2 i (λ e. absurd (omega (arith, a_in, from, e))) (λ e. absurd (omega (arith, b_in, from, e)))
  where
    moved : Swapped (λ n. get_or xs n x) (λ n. get_or (swap xs a b) n x) a b
    moved = swapped_from_swap xs (swap xs a b) a b x (omega (arith, a_in, within)) (omega (arith, b_in, within)) refl

module _ {C D : Type 0} (is_given_again : Certificate C D → Bool) (old new : ShelfView C D) (end : ℕ)
    (end_is : end ≡ min old.handed (length old.certificates))
    (are : AreDistinct kind_and_round old.certificates)
    (moves : IsPermutation old.certificates new.certificates)
    (behind : (i : ℕ) (c : Certificate C D) → end ≤ i
    → get_or new.certificates i c ≡ get_or old.certificates i c)
    (parted : AreParted is_given_again new.certificates end new.handed) where
  same_length : length new.certificates ≡ length old.certificates
  same_length = length_permutation old.certificates new.certificates moves

  wrong : true ≡ false → ⊥
  wrong e = absurd cc

  -- of two places with one certificate
  no_two :
      (cs : List (Certificate C D)) (i j : ℕ) (c : Certificate C D) → AreDistinct kind_and_round cs
      → slice_get cs i ≡ Some c → slice_get cs j ≡ Some c → i < j → ⊥
  no_two cs i j c apart_all here there lt =
      before_differ kind_and_round cs j c apart_all there c (contained_first cs i j c here lt) refl

  stays :
      (c : Certificate C D) (i : ℕ) → i < end → slice_get old.certificates i ≡ Some c
      → is_given_again c ≡ false → Contains new.certificates c
      → Contains (take new.handed new.certificates) c
  stays c i lt here not_again (j, j_in, is) = elim (cases_lt j new.handed) [
    | inl below ↦ contained_first new.certificates j new.handed c (slice_get-get_or new.certificates j c j_in ∙ ap Some is) below
    | inr up ↦ elim (cases_lt j end) [
      | inl inside ↦ absurd (wrong (sym (subst (λ d. is_given_again d ≡ true) is (parted.others j c up inside)) ∙ not_again))
      | inr outside ↦ absurd (no_two old.certificates i j c are here
          (slice_get-get_or old.certificates j c (omega (arith, j_in, same_length)) ∙ ap Some (sym (behind j c outside) ∙ is))
          (omega (arith, lt, outside)))
    ]
  ]

  was_there :
      (c : Certificate C D) (i : ℕ) → i < new.handed → slice_get new.certificates i ≡ Some c
      → Contains old.certificates c → Contains (take old.handed old.certificates) c
  was_there c i lt here (k, k_in, is) = elim (cases_lt k end) [
    | inl inside ↦ contained_first old.certificates k old.handed c (slice_get-get_or old.certificates k c k_in ∙ ap Some is)
        (omega (arith, inside, end_is))
    | inr outside ↦ absurd (no_two new.certificates i k c
        (distinct_moved kind_and_round old.certificates new.certificates moves are) here
        (slice_get-get_or new.certificates k c (omega (arith, k_in, same_length)) ∙ ap Some (behind k c outside ∙ is))
        (omega (arith, lt, parted.within, outside)))
  ]

  pub puts_behind : PutsBehind is_given_again old new
  puts_behind =
      record {
        moves = moves;
        within = omega (arith, parted.within, end_is, same_length);
        stay_given = λ c there not_again.
            let it = at_place old.certificates old.handed c there in
            stays c it.0 (omega (arith, it.1.0, slice_get_within old.certificates it.0 c it.1.1, end_is)) it.1.1 not_again
            (Contains-permutation old.certificates new.certificates c moves
            (it.0, slice_get_within old.certificates it.0 c it.1.1, get_or_from_slice_get old.certificates it.0 c c it.1.1));
        no_others = λ c there.
            let it = at_place new.certificates new.handed c there in (
              was_there c it.0 it.1.0 it.1.1
                  (Contains-permutation new.certificates old.certificates c
                  (IsPermutation-sym old.certificates new.certificates moves)
                  (it.0, slice_get_within new.certificates it.0 c it.1.1, get_or_from_slice_get new.certificates it.0 c c it.1.1)),
              subst (λ d. is_given_again d ≡ false) (get_or_from_slice_get new.certificates it.0 c c it.1.1)
                  (parted.stay it.0 c it.1.0),
            );
      }

-- Those that were given are the first, but for what is given again.
pub first_behind :
    {C D : Type 0} (is_over is_given_again : (Kind × Round) → Bool) (WasHanded : (Kind × Round)
    → Type 0) (old new : ShelfView C D)
    → AreFirst kind_and_round is_over WasHanded old.certificates old.handed
    → PutsBehind (λ c. is_given_again (kind_and_round c)) old new
    → AreFirst kind_and_round is_over (λ key. (is_given_again key ≡ false) × WasHanded key)
    new.certificates new.handed
first_behind is_over is_given_again WasHanded old new are puts =
    record {
      within = puts.within;
      were_given = λ c there. ((puts.no_others c there).1, are.were_given c (puts.no_others c there).0);
      no_others = λ key was above.
          let it = are.no_others key was.1 above in
          record {
            item = it.item;
            there = puts.stay_given it.item it.there
                (subst (λ k. is_given_again k ≡ false) (sym it.is_of) was.0);
            is_of = it.is_of;
          };
    }

pub kept_behind :
    {D K G C : Type 0} (x : NodeConfig D K G C) (past : ValidatorHistory D K G C)
    (old new : List (Certificate C D))
    → IsPermutation old new → AreKept x past old → AreKept x (again ∷ past) new
kept_behind {D = D} {C = C} x past old new moves are =
    record {
      had = λ c there. are.had c (back c there);
      certify = λ c there. are.certify c (back c there);
      looked_at = λ c there. are.looked_at c (back c there);
      are_there = λ c counts. key_moved kind_and_round old new moves (kind_and_round c)
          (are.are_there c (record { had = counts.had; looked_at = counts.looked_at }));
    }
  where
    back : (c : Certificate C D) → Contains new c → Contains old c
    back c there = Contains-permutation new old c (IsPermutation-sym old new moves) there
