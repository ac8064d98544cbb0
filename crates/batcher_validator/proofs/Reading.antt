-- A validator takes in what its disk has.
use Rattle.batcher_validator.proofs.Words.{◌≡◌, ◌⊎◌, ◌++◌, ◌+◌, ℕ, zero, suc, List, [], ◌∷◌, Ok, Option, Some, ap, arith, inl, inr, refl, subst, sym, take}
use Rattle.batcher_validator.proofs.Words.{Contains, IfSome, slice_get, Contains-append_left, Contains-append_right, Certificate, Format, whole, versioned}
use Rattle.batcher_validator.proofs.Words.{Certified, NodeConfig, ValidatorHistory, did, only_took, took, verified, IsAtPlace, Recalls, AreBytesOf, IsRunning}
use Rattle.batcher_validator.proofs.Words.{Contains-append_cases, RunTakes, ValidatorView}
use Rattle.batcher_validator.proofs.Queueing.{contains_one}

-- what bytes decode to is one
pub same_decoded :
    {C D : Type 0} (format : Format (Certificate C D)) (bytes : List ℕ)
    (o : Option (Certificate C D)) (c d : Certificate C D) → o ≡ Some c
    → IfSome o (λ e. whole (versioned format) bytes ≡ Ok e) → whole (versioned format) bytes ≡ Ok d
    → c ≡ d
same_decoded format bytes o c d is decoded other =
    let one : whole (versioned format) bytes ≡ Ok c =
    subst (λ o. IfSome o (λ e. whole (versioned format) bytes ≡ Ok e)) is decoded in
    cc

-- and so is what those at a place do
pub same_at_place :
    {C D : Type 0} (format : Format (Certificate C D)) (kept : List Certified) (i : ℕ)
    (c d : Certificate C D) → IsAtPlace format kept i c → IsAtPlace format kept i d → c ≡ d
same_at_place format kept i c d one other =
    let here = one.there in
    let there = other.there in
    let is = one.decoded in
    let also = other.decoded in
    cc

module _ {C D : Type 0} (format : Format (Certificate C D)) where
  -- among the first ones, of which there is one more
  one_more :
      (kept : List Certified) (i : ℕ) (one : Certified) → Contains (take (suc i) kept) one
      → Contains (take i kept) one ⊎ (slice_get kept i ≡ Some one)
  one_more [] i one (j, lt, is) = absurd (omega (arith, lt))
  one_more (k ∷ kept) zero one (zero, lt, is) = inr (ap Some is)
  one_more (k ∷ kept) zero one (suc j, lt, is) = absurd (omega (arith, lt))
  one_more (k ∷ kept) (suc i) one (zero, lt, is) = inl (0, omega arith, is)
  one_more (k ∷ kept) (suc i) one (suc j, lt, is) = elim (one_more kept i one (j, omega (arith, lt), is)) [
    | inl before ↦ inl (suc before.0, omega (arith, before.1), before.2)
    | inr here ↦ inr here
  ]

  pub none_at_first :
      (kept : List Certified) (c : Certificate C D) → AreBytesOf format (take 0 kept) c → ⊥
  none_at_first [] c are = absurd (omega (arith, are.there.1))
  none_at_first (k ∷ kept) c are = absurd (omega (arith, are.there.1))

  pub bytes_more :
      (kept : List Certified) (i : ℕ) (c : Certificate C D)
      → AreBytesOf format (take (i + 1) kept) c
      → AreBytesOf format (take i kept) c ⊎ IsAtPlace format kept i c
  bytes_more kept i c are = elim (one_more kept i are.one (subst (λ n. Contains (take n kept) are.one) next are.there)) [
    | inl before ↦ inl (record { one = are.one; there = before; decoded = are.decoded })
    | inr here ↦ inr (record { one = are.one; there = here; decoded = are.decoded })
  ]
    where
      next : i + 1 ≡ suc i
      next = omega arith

  -- and those that were there are among one more
  among_more :
      (kept : List Certified) (i : ℕ) (one : Certified)
      → Contains (take i kept) one ⊎ (slice_get kept i ≡ Some one)
      → Contains (take (suc i) kept) one
  among_more [] zero one (inl (j, lt, is)) = absurd (omega (arith, lt))
  among_more [] (suc i) one (inl (j, lt, is)) = absurd (omega (arith, lt))
  among_more [] i one (inr is) = absurd (cc)
  among_more (k ∷ kept) zero one (inl (j, lt, is)) = absurd (omega (arith, lt))
  among_more (k ∷ kept) zero one (inr is) =
      let same : k ≡ one = cc in (0, omega arith, same)
  among_more (k ∷ kept) (suc i) one (inl (zero, lt, is)) = (0, omega arith, is)
  among_more (k ∷ kept) (suc i) one (inl (suc j, lt, is)) =
      let it = among_more kept i one (inl (j, omega (arith, lt), is)) in
      (suc it.0, omega (arith, it.1), it.2)
  among_more (k ∷ kept) (suc i) one (inr is) =
      let it = among_more kept i one (inr is) in (suc it.0, omega (arith, it.1), it.2)

  pub bytes_among :
      (kept : List Certified) (i : ℕ) (c : Certificate C D)
      → AreBytesOf format (take i kept) c ⊎ IsAtPlace format kept i c
      → AreBytesOf format (take (i + 1) kept) c
  bytes_among kept i c (inl are) =
      let next : suc i ≡ i + 1 = omega arith in
      record {
        one = are.one;
        there = subst (λ n. Contains (take n kept) are.one) next (among_more kept i are.one (inl are.there));
        decoded = are.decoded;
      }
  bytes_among kept i c (inr at) =
      let next : suc i ≡ i + 1 = omega arith in
      record {
        one = at.one;
        there = subst (λ n. Contains (take n kept) at.one) next (among_more kept i at.one (inr at.there));
        decoded = at.decoded;
      }

module _ {D K G C : Type 0} where
  took_both :
      (later first : List (Certificate C D)) (past : ValidatorHistory D K G C)
      → only_took (later ++ first) ++ past ≡ only_took later ++ (only_took first ++ past)
  took_both [] first past = refl
  took_both (c ∷ later) first past =
      ap (λ rest. took c ∷ did (verified c) ∷ rest) (took_both later first past)

module _ {S D K G C L : Type 0} (x : NodeConfig D K G C) where
  pub recalls_none :
      (IsThere : Certificate C D → Type 0) (old : ValidatorView S G D L C)
      → ((c : Certificate C D) → IsThere c → ⊥) → Recalls x IsThere old old
  recalls_none IsThere old none =
      record {
        held = [];
        has_all = λ c there. absurd (none c there);
        no_others = λ c within. absurd (omega (arith, within.1));
        running = λ past earlier is. is;
      }

  pub recalls_one :
      (IsThere : Certificate C D → Type 0) (old new : ValidatorView S G D L C) (c : Certificate C D)
      → RunTakes x c old new → IsThere c → ((d : Certificate C D) → IsThere d → c ≡ d)
      → Recalls x IsThere old new
  recalls_one IsThere old new c meets there same =
      record {
        held = c ∷ [];
        has_all = λ d there. (0, omega arith, same d there);
        no_others = λ d within. subst IsThere (contains_one c d within) there;
        running = λ past earlier is. meets past earlier is;
      }

  pub recalls_both :
      (IsFirst IsLater IsThere : Certificate C D → Type 0) (old mid new : ValidatorView S G D L C)
      → Recalls x IsFirst old mid → Recalls x IsLater mid new
      → ((c : Certificate C D) → IsThere c → IsFirst c ⊎ IsLater c)
      → ((c : Certificate C D) → IsFirst c ⊎ IsLater c → IsThere c) → Recalls x IsThere old new
  recalls_both IsFirst IsLater IsThere old mid new first later either back =
      record {
        held = later.held ++ first.held;
        has_all = λ c there. elim (either c there) [
          | inl is ↦ Contains-append_right later.held first.held c (first.has_all c is)
          | inr is ↦ Contains-append_left later.held first.held c (later.has_all c is)
        ];
        no_others = λ c within. elim (Contains-append_cases later.held first.held c within) [
          | inl is ↦ back c (inr (later.no_others c is))
          | inr is ↦ back c (inl (first.no_others c is))
        ];
        running = λ past earlier is.
            subst (λ h. IsRunning x h earlier new) (sym (took_both later.held first.held past))
            (later.running (only_took first.held ++ past) earlier (first.running past earlier is));
      }
