-- A list: how many values there are, and then each.
use Rattle.std.specs.Prelude.{◌≡◌, ◌<◌, ◌^◌, ◌++◌, ℕ, zero, suc, List, [], ◌∷◌, Result, Ok, Err}
use Rattle.std.specs.Prelude.{IfOk, length}
use Rattle.std.proofs.Common.{◌∙◌, ap, append_assoc, arith, refl, subst, sym}
use Rattle.std.specs.Int.{w64}
use Rattle.std.specs.List.{AllByRecursion, flat_map}
use Rattle.batcher_bytes.specs.declared.fault.DecodeError.{DecodeError}
use Rattle.batcher_bytes.specs.declared.fault.DecodeError.TheVariants.{Fault, OutOfMemory}
use Rattle.batcher_bytes.specs.declared.fault.DecodeFault.{DecodeFault}
use Rattle.batcher_bytes.specs.Exact.{AreBytes-rest, bind_ok, ok_is, u64_is_exact, whole_again}
use Rattle.batcher_bytes.specs.Exact.{whole_found}
use Rattle.batcher_bytes.specs.Format.{◌>>=◌, AreBytes, Format, IsExact, number_at, number_bytes}
use Rattle.batcher_bytes.specs.Format.{whole}

-- What a function that takes memory answered is what is decoded, unless memory ran out.
abbrev pub MayDecode : {X Y : Type 0} → (X → Y) → Result X DecodeError → Result Y DecodeFault
    → Type 0
MayDecode view (Ok x) decoded = decoded ≡ Ok (view x)
MayDecode view (Err OutOfMemory) decoded = Unit {0}
MayDecode view (Err (Fault e)) decoded = decoded ≡ Err e

module _ {A : Type 0} (f : Format A) where
  unfoldable pub items_at : ℕ → List ℕ → Result (List A × List ℕ) DecodeFault
  items_at zero bytes = Ok ([], bytes)
  items_at (suc n) bytes = do
    first ← f.decoding bytes
    others ← items_at n first.1
    Ok (first.0 ∷ others.0, others.1)

  abbrev pub AreValues : List A → Type 0
  AreValues xs = AllByRecursion f.IsValue xs

  abbrev pub list_format : Format (List A)
  list_format = record {
    IsValue = λ xs. (length xs < 2 ^ 64) × AreValues xs;
    encoding = λ xs. number_bytes w64 (length xs) ++ flat_map f.encoding xs;
    decoding = λ bytes. number_at w64 bytes >>= λ n. items_at n.0 n.1;
  }

  module _ (exact : IsExact f) where
    record Found (bytes : List ℕ) (n : ℕ) (xs : List A) (rest : List ℕ) : Type 0 where
      parts : bytes ≡ flat_map f.encoding xs ++ rest
      count : length xs ≡ n
      values : AreValues xs

    items_found : (n : ℕ) (bytes : List ℕ) (x : List A × List ℕ) → AreBytes bytes
        → items_at n bytes ≡ Ok x → Found bytes n x.0 x.1
    unfolding items_at
    items_found zero bytes x are decoded =
        subst (λ (y : List A × List ℕ). Found bytes 0 y.0 y.1) (ok_is ([], bytes) x decoded)
        (record { parts = refl; count = refl; values = tt })
    items_found (suc n) bytes x are decoded =
        let a = bind_ok (f.decoding bytes)
        (λ first. items_at n first.1 >>= λ others. Ok (first.0 ∷ others.0, others.1)) x decoded in
        let b = bind_ok (items_at n a.0.1) (λ others. Ok (a.0.0 ∷ others.0, others.1)) x a.2 in
        let first = exact.found bytes a.0.0 a.0.1 are a.1 in
        let others = items_found n a.0.1 b.0
        (AreBytes-rest bytes (f.encoding a.0.0) a.0.1 are first.1) b.1 in
        let made : List A × List ℕ = (a.0.0 ∷ b.0.0, b.0.1) in
        let parts : bytes ≡ flat_map f.encoding (a.0.0 ∷ b.0.0) ++ b.0.1 =
        first.1 ∙ ap (λ (t : List ℕ). f.encoding a.0.0 ++ t) others.parts
        ∙ sym (append_assoc (f.encoding a.0.0) (flat_map f.encoding b.0.0) b.0.1) in
        subst (λ (y : List A × List ℕ). Found bytes (suc n) y.0 y.1) (ok_is made x b.2)
        (record {
          parts = parts;
          count = ap suc others.count;
          values = (first.0, others.values);
        })

    items_again : (xs : List A) (rest : List ℕ) → AreValues xs
        → items_at (length xs) (flat_map f.encoding xs ++ rest) ≡ Ok (xs, rest)
    unfolding items_at
    items_again [] rest values = refl
    items_again (x ∷ xs) rest values =
        let regrouped : flat_map f.encoding (x ∷ xs) ++ rest
        ≡ f.encoding x ++ (flat_map f.encoding xs ++ rest) =
        append_assoc (f.encoding x) (flat_map f.encoding xs) rest in
        ap (items_at (suc (length xs))) regrouped
        ∙ rw (exact.again x (flat_map f.encoding xs ++ rest) values.0, items_again xs rest values.1)
        refl

    pub list_is_exact : IsExact list_format
    list_is_exact = record {
      found = λ bytes xs rest are decoded.
          let a = bind_ok (number_at w64 bytes) (λ n. items_at n.0 n.1) (xs, rest) decoded in
          let first = u64_is_exact.found bytes a.0.0 a.0.1 are a.1 in
          let items = items_found a.0.0 a.0.1 (xs, rest)
          (AreBytes-rest bytes (number_bytes w64 a.0.0) a.0.1 are first.1) a.2 in (
            (omega (arith, items.count, first.0), items.values),
            first.1 ∙ ap (λ (t : List ℕ). number_bytes w64 a.0.0 ++ t) items.parts
                ∙ ap (λ (n : ℕ). number_bytes w64 n ++ (flat_map f.encoding xs ++ rest))
                (sym items.count)
                ∙ sym (append_assoc (number_bytes w64 (length xs)) (flat_map f.encoding xs) rest),
          );
      again = λ xs rest value.
          let regrouped : (number_bytes w64 (length xs) ++ flat_map f.encoding xs) ++ rest
          ≡ number_bytes w64 (length xs) ++ (flat_map f.encoding xs ++ rest) =
          append_assoc (number_bytes w64 (length xs)) (flat_map f.encoding xs) rest in
          ap list_format.decoding regrouped
          ∙ rw (u64_is_exact.again (length xs) (flat_map f.encoding xs ++ rest) value.0)
          (rw (items_again xs rest value.1) refl);
    }

-- A value that nothing follows, by what a function that takes memory answered.
module _ {A : Type 0} (f : Format A) (exact : IsExact f) (bytes : List ℕ) where
  pub whole_may_be_found : AreBytes bytes → (answer : Result A DecodeError)
      → MayDecode (λ x. x) answer (whole f bytes) → IfOk answer (λ x. bytes ≡ f.encoding x)
  whole_may_be_found are (Ok x) decoded = whole_found f exact bytes are (Ok x) decoded
  whole_may_be_found are (Err e) decoded = tt

  pub whole_may_be_again : (answer : Result A DecodeError)
      → MayDecode (λ x. x) answer (whole f bytes) → (x : A) → f.IsValue x → bytes ≡ f.encoding x
      → MayDecode (λ y. y) answer (Ok x)
  whole_may_be_again (Ok y) decoded x value is =
      sym (whole_again f exact bytes (Ok y) decoded x value is)
  whole_may_be_again (Err OutOfMemory) decoded x value is = tt
  whole_may_be_again (Err (Fault e)) decoded x value is =
      sym (whole_again f exact bytes (Err e) decoded x value is)
