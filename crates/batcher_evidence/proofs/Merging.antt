-- Two ascending lists of attestations, gone down together.
use Rattle.batcher_evidence.proofs.Words.{◌≡◌, ◌<◌, ◌==◌, ℕ, false, List, [], ◌∷◌, ◌++◌, length, None, refl, ap, sym, ◌∙◌, arith, AllByRecursion, cons_option}
use Rattle.batcher_evidence.proofs.Words.{find, option_map, eq-eqb, nat_tests, index_of_signer, Attestation, Culprit, signed_both}
use Rattle.batcher.specs.Ascending.{IsAscending}

append_nothing : {X : Type 0} (us : List X) → us ++ [] ≡ us
append_nothing [] = refl
append_nothing (u ∷ us) = ap (λ l. u ∷ l) (append_nothing us)

append_one : {X : Type 0} (us : List X) (v : X) (vs : List X) → (us ++ v ∷ []) ++ vs ≡ us ++ v ∷ vs
append_one [] v vs = refl
append_one (u ∷ us) v vs = ap (λ l. u ∷ l) (append_one us v vs)

differs : (m n : ℕ) → m < n → (n == m) ≡ false
differs m n h = grind (arith, nat_tests)

differs_too : (m n : ℕ) → m < n → (m == n) ≡ false
differs_too m n h = grind (arith, nat_tests)

module _ {G : Type 0} where
  -- nobody is found among those above
  none_found :
      (i : ℕ) (ys : List (Attestation G)) → AllByRecursion (λ b. i < index_of_signer b) ys
      → find (λ b. index_of_signer b == i) ys ≡ None
  none_found i [] h = refl
  none_found i (b ∷ ys) h = rw (differs i (index_of_signer b) h.0) (none_found i ys h.1)

  above : (i j : ℕ) (ys : List (Attestation G)) → i < j
      → AllByRecursion (λ b. j < index_of_signer b) ys
      → AllByRecursion (λ b. i < index_of_signer b) ys
  above i j [] below h = tt
  above i j (b ∷ ys) below h = (omega (arith, below, h.0), above i j ys below h.1)

  -- the first of the first list is below all of the second
  pub left_alone :
      (a b : Attestation G) (xs ys : List (Attestation G)) → index_of_signer a < index_of_signer b
      → IsAscending index_of_signer (b ∷ ys)
      → signed_both (a ∷ xs) (b ∷ ys) ≡ signed_both xs (b ∷ ys)
  unfolding IsAscending
  left_alone a b xs ys below h =
      let i = index_of_signer a in
      let all : AllByRecursion (λ c. i < index_of_signer c) (b ∷ ys) =
      (below, above i (index_of_signer b) ys below h.0) in
      ap
      (λ o. cons_option (option_map (λ c. record { first = a; second = c }) o) (signed_both xs (b ∷ ys)))
      (none_found i (b ∷ ys) all)

  -- an attestation that is below the whole first list is no one's there
  right_unused :
      (b : Attestation G) (xs ys : List (Attestation G))
      → AllByRecursion (λ a. index_of_signer b < index_of_signer a) xs
      → signed_both xs (b ∷ ys) ≡ signed_both xs ys
  right_unused b [] ys h = refl
  right_unused b (a ∷ xs) ys h =
      rw (differs_too (index_of_signer b) (index_of_signer a) h.0, right_unused b xs ys h.1) refl

  -- the first of the second list is below all of the first
  pub right_alone :
      (a b : Attestation G) (xs ys : List (Attestation G)) → index_of_signer b < index_of_signer a
      → IsAscending index_of_signer (a ∷ xs)
      → signed_both (a ∷ xs) (b ∷ ys) ≡ signed_both (a ∷ xs) ys
  unfolding IsAscending
  right_alone a b xs ys below h =
      right_unused b (a ∷ xs) ys (below, above (index_of_signer b) (index_of_signer a) xs below h.0)

  both_here :
      (a b : Attestation G) (xs ys : List (Attestation G)) → index_of_signer a ≡ index_of_signer b
      → IsAscending index_of_signer (a ∷ xs)
      → AllByRecursion (λ c. index_of_signer b < index_of_signer c) xs
      → signed_both (a ∷ xs) (b ∷ ys) ≡ record { first = a; second = b } ∷ signed_both xs ys
  both_here a b xs ys same h all =
      rw (eq-eqb (index_of_signer b) (index_of_signer a) (sym same), right_unused b xs ys all) refl

  -- both lists begin with the same signer
  pub both_begin :
      (a b : Attestation G) (xs ys : List (Attestation G)) → index_of_signer a ≡ index_of_signer b
      → IsAscending index_of_signer (a ∷ xs)
      → signed_both (a ∷ xs) (b ∷ ys) ≡ record { first = a; second = b } ∷ signed_both xs ys
  unfolding IsAscending
  both_begin a b xs ys same h = both_here a b xs ys same h (rw same at h.0)

  -- of an empty list nobody signs both
  pub none_right : (xs : List (Attestation G)) → signed_both xs [] ≡ []
  none_right [] = refl
  none_right (a ∷ xs) = none_right xs

  pub rest_ascends :
      (a : Attestation G) (xs : List (Attestation G)) → IsAscending index_of_signer (a ∷ xs)
      → IsAscending index_of_signer xs
  unfolding IsAscending
  rest_ascends a xs h = h.1

  -- What is left after a step, where the lists begin so.
  pub record Leaves (found : List (Culprit G)) (left right : List (Attestation G))
      (all : List (Culprit G)) : Type 0 where
    pub all_found : found ++ signed_both left right ≡ all
    pub left_ascends : IsAscending index_of_signer left
    pub right_ascends : IsAscending index_of_signer right

  module _
      (found : List (Culprit G)) (left right : List (Attestation G)) (all : List (Culprit G))
      (is : found ++ signed_both left right ≡ all)
      (left_ascends : IsAscending index_of_signer left)
      (right_ascends : IsAscending index_of_signer right)
      (a b : Attestation G) (xs ys : List (Attestation G))
      (left_is : left ≡ a ∷ xs) (right_is : right ≡ b ∷ ys)
    where
      lists_ascend : IsAscending index_of_signer (a ∷ xs) × IsAscending index_of_signer (b ∷ ys)
      lists_ascend = (rw left_is at left_ascends, rw right_is at right_ascends)

      all_is : found ++ signed_both (a ∷ xs) (b ∷ ys) ≡ all
      all_is =
          ap (λ l. found ++ signed_both l (b ∷ ys)) (sym left_is)
          ∙ (ap (λ l. found ++ signed_both left l) (sym right_is) ∙ is)

      pub leaves_left : index_of_signer a < index_of_signer b → Leaves found xs right all
      leaves_left below =
          record {
            all_found =
                ap (λ l. found ++ signed_both xs l) right_is
                ∙ (ap (λ l. found ++ l) (sym (left_alone a b xs ys below lists_ascend.1)) ∙ all_is);
            left_ascends = rest_ascends a xs lists_ascend.0;
            right_ascends = right_ascends;
          }

      pub leaves_right : index_of_signer b < index_of_signer a → Leaves found left ys all
      leaves_right below =
          record {
            all_found =
                ap (λ l. found ++ signed_both l ys) left_is
                ∙ (ap (λ l. found ++ l) (sym (right_alone a b xs ys below lists_ascend.0)) ∙ all_is);
            left_ascends = left_ascends;
            right_ascends = rest_ascends b ys lists_ascend.1;
          }

      pub leaves_both :
          index_of_signer a ≡ index_of_signer b
          → Leaves (found ++ record { first = a; second = b } ∷ []) xs ys all
      leaves_both same =
          record {
            all_found =
                append_one found (record { first = a; second = b }) (signed_both xs ys)
                ∙ (ap (λ l. found ++ l) (sym (both_begin a b xs ys same lists_ascend.0)) ∙ all_is);
            left_ascends = rest_ascends a xs lists_ascend.0;
            right_ascends = rest_ascends b ys lists_ascend.1;
          }

  -- Where a list has come to its end, all are found.
  pub ends_left :
      (found : List (Culprit G)) (left right : List (Attestation G)) (all : List (Culprit G))
      → length left ≡ 0 → found ++ signed_both left right ≡ all → found ≡ all
  ends_left found [] right all none is = sym (append_nothing found) ∙ is
  ends_left found (a ∷ left) right all none is = absurd (omega (arith, none))

  pub ends_right :
      (found : List (Culprit G)) (left right : List (Attestation G)) (all : List (Culprit G))
      → length right ≡ 0 → found ++ signed_both left right ≡ all → found ≡ all
  ends_right found left [] all none is =
      sym (append_nothing found) ∙ (ap (λ l. found ++ l) (sym (none_right left)) ∙ is)
  ends_right found left (b ∷ right) all none is = absurd (omega (arith, none))
