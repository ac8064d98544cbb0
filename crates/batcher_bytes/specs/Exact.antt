-- The formats of bytes, numbers and pairs are exact, and what follows of each format that is.
use Rattle.std.specs.Prelude.{◌≡◌, ◌+◌, ◌-◌, ◌^◌, ◌<◌, ◌≤◌, ◌++◌, ℕ, Bool, true, false, cond, List}
use Rattle.std.specs.Prelude.{[], ◌∷◌, Result, Ok, Err, IfOk, drop, length, take}
use Rattle.std.proofs.Common.{◌∙◌, ltb, ap, append_assoc, arith, get_or, inl, inr, refl, subst, sym}
use Rattle.std.specs.Int.{Width, byte_len, from_be_bytes, to_be_bytes, w32, w64}
use Rattle.std.proofs.lemmas.Bool.{cases_lt, le-ltb, ltb-false}
use Rattle.std.proofs.lemmas.List.{append-nil, drop_at, get_or-append-add, get_or-take, get_or_past}
use Rattle.std.proofs.lemmas.List.{length-append, length-take, take-append-drop, take_at}
use Rattle.std.proofs.lemmas.Nat.{be_bytes_4, be_bytes_8, from_be_bytes-to_be_bytes_4}
use Rattle.std.proofs.lemmas.Nat.{from_be_bytes-to_be_bytes_8}
use Rattle.batcher_bytes.specs.declared.fault.DecodeFault.{DecodeFault}
use Rattle.batcher_bytes.specs.declared.fault.DecodeFault.TheVariants.{Short}
use Rattle.batcher_bytes.specs.Format.{◌>>=◌, AreBytes, Decodes, Format, IsEncodedAt, IsExact}
use Rattle.batcher_bytes.specs.Format.{IsPrefixFree, at_end, bytes_format, fixed, mapped, number}
use Rattle.batcher_bytes.specs.Format.{number_at, number_bytes, pair, u32_format, u64_format, whole}

AreBytes-take : (n : ℕ) (bytes : List ℕ) → AreBytes bytes → AreBytes (take n bytes)
AreBytes-take n bytes are i =
    elim (cases_lt i n) [
      | inl lt ↦ rw (get_or-take n bytes i 0 lt) (are i)
      | inr le ↦
          let past : length (take n bytes) ≤ i = omega (arith, length-take n bytes) in
          rw (get_or_past (take n bytes) i 0 past) (omega arith)
    ]

-- what follows in bytes is bytes
pub AreBytes-rest : (bytes text rest : List ℕ) → AreBytes bytes → bytes ≡ text ++ rest
    → AreBytes rest
AreBytes-rest bytes text rest are e i =
    subst (λ (n : ℕ). n < 256)
    (ap (λ (bs : List ℕ). get_or bs (length text + i) 0) e ∙ get_or-append-add text rest i 0)
    (are (length text + i))

-- the value of a step that found one
pub bind_ok : {A B : Type 0} (r : Result A DecodeFault) (f : A → Result B DecodeFault) (y : B)
    → (r >>= f) ≡ Ok y → (x : A) × (r ≡ Ok x) × (f x ≡ Ok y)
bind_ok (Ok x) f y e = (x, refl, e)
bind_ok (Err d) f y e = absurd cc

-- a test that was passed
guard_ok : {A : Type 0} (b : Bool) (d : DecodeFault) (x y : A) → cond b (Err d) (Ok x) ≡ Ok y
    → (b ≡ false) × (x ≡ y)
guard_ok true d x y e = absurd cc
guard_ok false d x y e = (refl, cc)

abbrev answer : {A : Type 0} → A → Result A DecodeFault
answer x = Ok x

pub ok_is : {A : Type 0} (x y : A) → answer x ≡ answer y → x ≡ y
ok_is x y e = cc

-- the first n bytes, and those after them
module _ (n : ℕ) (bytes x rest : List ℕ) where
  split_at : n ≤ length bytes → take n bytes ≡ x → drop n bytes ≡ rest
      → (length x ≡ n) × (bytes ≡ x ++ rest)
  split_at long front back = rw (← front, ← back) (
    omega (arith, length-take n bytes),
    sym (take-append-drop n bytes),
  )

  fixed_found : (fixed n).decoding bytes ≡ Ok (x, rest) → (length x ≡ n) × (bytes ≡ x ++ rest)
  fixed_found e =
      let g = guard_ok (ltb (length bytes) n) Short (take n bytes, drop n bytes) (x, rest) e in
      split_at (ltb-false _ _ g.0) (ap (λ (p : List ℕ × List ℕ). p.0) g.1)
      (ap (λ (p : List ℕ × List ℕ). p.1) g.1)

pub fixed_is_exact : (n : ℕ) → IsExact (fixed n)
fixed_is_exact n = record {
  found = λ bytes x rest are e. fixed_found n bytes x rest e;
  again = λ x rest value.
      let long : ltb (length (x ++ rest)) n ≡ false =
      le-ltb _ _ (omega (arith, length-append x rest, value)) in
      rw (long, take_at x rest n value, drop_at x rest n value) refl;
}

-- numbers of so many bytes, the highest first
record IsWide (w : Width) (limit : ℕ) : Type 0 where
  len : (n : ℕ) → length (to_be_bytes w n) ≡ byte_len w
  back : (bytes : List ℕ) → length bytes ≡ byte_len w → AreBytes bytes
      → to_be_bytes w (from_be_bytes w bytes) ≡ bytes
  again : (n : ℕ) → n < limit → from_be_bytes w (to_be_bytes w n) ≡ n
  below : (bytes : List ℕ) → AreBytes bytes → from_be_bytes w bytes < limit

wide32 : IsWide w32 (2 ^ 32)
wide32 = record {
  len = λ n. refl;
  back = λ bytes len are. be_bytes_4 bytes _ len are refl;
  again = λ n lt. from_be_bytes-to_be_bytes_4 n lt;
  below = λ bytes are. omega (arith, are 0, are 1, are 2, are 3);
}

wide64 : IsWide w64 (2 ^ 64)
wide64 = record {
  len = λ n. refl;
  back = λ bytes len are. be_bytes_8 bytes _ len are refl;
  again = λ n lt. from_be_bytes-to_be_bytes_8 n lt;
  below = λ bytes are. omega (arith, are 0, are 1, are 2, are 3, are 4, are 5, are 6, are 7);
}

module _ (w : Width) (limit : ℕ) (wide : IsWide w limit) where
  number_found : (bytes : List ℕ) (n : ℕ) (rest : List ℕ) → AreBytes bytes
      → number_at w bytes ≡ Ok (n, rest) → (n < limit) × (bytes ≡ number_bytes w n ++ rest)
  unfolding number_bytes
  number_found bytes n rest are e =
      let front = take (byte_len w) bytes in
      let g = guard_ok (ltb (length bytes) (byte_len w)) Short
      (from_be_bytes w front, drop (byte_len w) bytes) (n, rest) e in
      let long : byte_len w ≤ length bytes = ltb-false _ _ g.0 in
      let are_front = AreBytes-take (byte_len w) bytes are in
      let n_is : from_be_bytes w front ≡ n = ap (λ (p : ℕ × List ℕ). p.0) g.1 in
      let rest_is : drop (byte_len w) bytes ≡ rest = ap (λ (p : ℕ × List ℕ). p.1) g.1 in
      let same : to_be_bytes w n ≡ front =
      rw (← n_is) (wide.back front (omega (arith, length-take (byte_len w) bytes)) are_front) in (
        rw (← n_is) (wide.below front are_front),
        rw (same, ← rest_is) (sym (take-append-drop (byte_len w) bytes)),
      )

  number_again : (n : ℕ) (rest : List ℕ) → n < limit
      → number_at w (number_bytes w n ++ rest) ≡ Ok (n, rest)
  unfolding number_bytes
  number_again n rest lt =
      let len = wide.len n in
      let bytes = to_be_bytes w n in
      let long : ltb (length (bytes ++ rest)) (byte_len w) ≡ false =
      le-ltb _ _ (omega (arith, length-append bytes rest)) in
      let front = take_at bytes rest (byte_len w) len in
      let behind = drop_at bytes rest (byte_len w) len in
      rw (long, front, behind, wide.again n lt) refl

  number_is_exact : IsExact (number w limit)
  number_is_exact = record { found = number_found; again = number_again }

pub u32_is_exact : IsExact u32_format
u32_is_exact = number_is_exact w32 (2 ^ 32) wide32

pub u64_is_exact : IsExact u64_format
u64_is_exact = number_is_exact w64 (2 ^ 64) wide64

-- as many bytes as there are
module _ (bytes x rest : List ℕ) where
  bytes_found : AreBytes bytes → bytes_format.decoding bytes ≡ Ok (x, rest)
      → bytes_format.IsValue x × (bytes ≡ bytes_format.encoding x ++ rest)
  bytes_found are e =
      let a = bind_ok (number_at w64 bytes) (λ n. (fixed n.0).decoding n.1) (x, rest) e in
      let count : ℕ = a.0.0 in
      let first = u64_is_exact.found bytes count a.0.1 are a.1 in
      let after = fixed_found count a.0.1 x rest a.2 in (
        omega (arith, first.0, after.0),
        first.1 ∙ ap (λ (t : List ℕ). number_bytes w64 count ++ t) after.1
            ∙ ap (λ (n : ℕ). number_bytes w64 n ++ (x ++ rest)) (sym after.0)
            ∙ sym (append_assoc (number_bytes w64 (length x)) x rest),
      )

pub bytes_is_exact : IsExact bytes_format
bytes_is_exact = record {
  found = bytes_found;
  again = λ x rest value.
      ap bytes_format.decoding (append_assoc (number_bytes w64 (length x)) x rest)
      ∙ rw (u64_is_exact.again (length x) (x ++ rest) value)
      ((fixed_is_exact (length x)).again x rest refl);
}

-- one value after another
module _ {A B : Type 0} (f : Format A) (g : Format B) (of_f : IsExact f) (of_g : IsExact g) where
  abbrev Answer : Type 0
  Answer = (A × B) × List ℕ

  abbrev WasEncoded : List ℕ → Answer → Type 0
  WasEncoded bytes y = (pair f g).IsValue y.0 × (bytes ≡ (pair f g).encoding y.0 ++ y.1)

  pair_found : (bytes : List ℕ) (x : A × B) (rest : List ℕ) → AreBytes bytes
      → (pair f g).decoding bytes ≡ Ok (x, rest) → WasEncoded bytes (x, rest)
  pair_found bytes x rest are e =
      let a = bind_ok (f.decoding bytes) (λ a. g.decoding a.1 >>= λ b. Ok ((a.0, b.0), b.1))
      (x, rest) e in
      let b = bind_ok (g.decoding a.0.1) (λ b. Ok ((a.0.0, b.0), b.1)) (x, rest) a.2 in
      let first = of_f.found bytes a.0.0 a.0.1 are a.1 in
      let second = of_g.found a.0.1 b.0.0 b.0.1
      (AreBytes-rest bytes (f.encoding a.0.0) a.0.1 are first.1) b.1 in
      let made : Answer = ((a.0.0, b.0.0), b.0.1) in
      subst (WasEncoded bytes) (ok_is made (x, rest) b.2) (
        (first.0, second.0),
        first.1 ∙ ap (λ (t : List ℕ). f.encoding a.0.0 ++ t) second.1
            ∙ sym (append_assoc (f.encoding a.0.0) (g.encoding b.0.0) b.0.1),
      )

  pub pair_is_exact : IsExact (pair f g)
  pair_is_exact = record {
    found = pair_found;
    again = λ x rest value.
        ap (pair f g).decoding (append_assoc (f.encoding x.0) (g.encoding x.1) rest)
        ∙ rw (of_f.again x.0 (g.encoding x.1 ++ rest) value.0)
        (rw (of_g.again x.1 rest value.1) refl);
  }

-- a value of another type
module _ {A B : Type 0} (there : A → B) (back : B → A) (f : Format A) where
  abbrev WasMapped : List ℕ → B × List ℕ → Type 0
  WasMapped bytes z = f.IsValue (back z.0) × (bytes ≡ f.encoding (back z.0) ++ z.1)

  mapped_found : ((x : A) → back (there x) ≡ x) → IsExact f → (bytes : List ℕ) (y : B)
      (rest : List ℕ) → AreBytes bytes → (mapped there back f).decoding bytes ≡ Ok (y, rest)
      → WasMapped bytes (y, rest)
  mapped_found back_there exact bytes y rest are e =
      let a = bind_ok (f.decoding bytes) (λ x. Ok (there x.0, x.1)) (y, rest) e in
      let first = exact.found bytes a.0.0 a.0.1 are a.1 in
      let made : B × List ℕ = (there a.0.0, a.0.1) in
      let here : WasMapped bytes made = rw (back_there a.0.0) first in
      subst (WasMapped bytes) (ok_is made (y, rest) a.2) here

  pub mapped_is_exact : ((x : A) → back (there x) ≡ x) → ((y : B) → there (back y) ≡ y)
      → IsExact f → IsExact (mapped there back f)
  mapped_is_exact back_there there_back exact = record {
    found = mapped_found back_there exact;
    again = λ y rest value. rw (exact.again (back y) rest value, there_back y) refl;
  }

-- No encoding begins another.
pub exact_is_prefix_free : {A : Type 0} (f : Format A) → IsExact f → IsPrefixFree f
exact_is_prefix_free {A} f exact x y r s vx vy same =
    let both : Ok (x, r) ≡ Ok (y, s) =
    sym (exact.again x r vx) ∙ ap f.decoding same ∙ exact.again y s vy in
    let parts : (x, r) ≡ (y, s) = ok_is (x, r) (y, s) both in
    (ap (λ (p : A × List ℕ). p.0) parts, ap (λ (p : A × List ℕ). p.1) parts)

-- what was decoded at the front, by the length of what is left
pub record IsDecodedAt {A : Type 0} (f : Format A) (bytes : List ℕ) (x : A)
    (rest : List ℕ) : Type 0 where
  pub shorter : length rest ≤ length bytes
  pub encoded : IsEncodedAt f bytes x (length bytes - length rest)
  pub left : drop (length bytes - length rest) bytes ≡ rest

pub is_decoded_at : {A : Type 0} (f : Format A) → IsExact f → (bytes : List ℕ) (x : A)
    (rest : List ℕ) → AreBytes bytes → f.decoding bytes ≡ Ok (x, rest)
    → IsDecodedAt f bytes x rest
is_decoded_at f exact bytes x rest are decoded =
    let t = exact.found bytes x rest are decoded in
    let sum : length bytes ≡ length (f.encoding x) + length rest =
    ap length t.1 ∙ length-append (f.encoding x) rest in
    let count : length (f.encoding x) ≡ length bytes - length rest = omega arith in
    record {
      shorter = omega arith;
      encoded = record {
        within = omega arith;
        value = t.0;
        same = ap (take (length bytes - length rest)) t.1 ∙ take_at (f.encoding x) rest _ count;
      };
      left = ap (drop (length bytes - length rest)) t.1 ∙ drop_at (f.encoding x) rest _ count;
    }

-- a value that nothing follows, by what a function answered
module _ {A : Type 0} (f : Format A) (exact : IsExact f) (bytes : List ℕ) where
  at_end_is : (p : A × List ℕ) (x : A) → at_end p ≡ Ok x → p ≡ (x, [])
  at_end_is (y, []) x e = ap (λ z. (z, [])) (ok_is y x e)
  at_end_is (y, b ∷ rest) x e = absurd cc

  pub whole_found : AreBytes bytes → (answered : Result A DecodeFault)
      → Decodes (λ x. x) answered (whole f bytes) → IfOk answered (λ x. bytes ≡ f.encoding x)
  whole_found are (Ok x) decoded =
      let a = bind_ok (f.decoding bytes) at_end x decoded in
      let read : f.decoding bytes ≡ Ok (x, []) = a.1 ∙ ap (λ p. Ok p) (at_end_is a.0 x a.2) in
      (exact.found bytes x [] are read).1 ∙ append-nil (f.encoding x)
  whole_found are (Err e) decoded = tt

  pub whole_again : (answered : Result A DecodeFault) → Decodes (λ x. x) answered (whole f bytes)
      → (x : A) → f.IsValue x → bytes ≡ f.encoding x → answered ≡ Ok x
  whole_again answered decoded x value is =
      let read : f.decoding bytes ≡ Ok (x, []) =
      ap f.decoding (is ∙ sym (append-nil (f.encoding x))) ∙ exact.again x [] value in
      of_either answered decoded (rw read refl)
    where
      of_either : (r : Result A DecodeFault) → Decodes (λ y. y) r (whole f bytes)
          → whole f bytes ≡ Ok x → r ≡ Ok x
      of_either (Ok y) d e = sym d ∙ e
      of_either (Err y) d e = sym d ∙ e
