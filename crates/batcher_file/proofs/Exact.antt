-- What is read as a frame was written as one, and what was written as one is read.
use Rattle.batcher_file.proofs.Words.{◌≡◌, ◌≢◌, ◌+◌, ◌-◌, ◌≤◌, ◌^◌, ◌<◌, ◌++◌, ◌∙◌, Fits, ℕ, Bool, true, false, cond, eqb, List, ◌∷◌, Ok, Err, ap, append_assoc}
use Rattle.batcher_file.proofs.Words.{arith, drop, eq-eqb, get_or, length, refl, subst, sym, take, w8, eqb-true, drop_more, take_rest, w64, AreBytes-rest}
use Rattle.batcher_file.proofs.Words.{bind_ok, fixed_is_exact, ok_is, pair_is_exact, u64_is_exact, AreBytes, Format, IsExact, fixed, number_bytes, pair}
use Rattle.batcher_file.proofs.Words.{u64_format, DecodeFault, Malformed, checksum, sealed, sealed_format, AreTwoFrames, IsFrame, frame, frame_format}
use Rattle.batcher_file.proofs.Sums.{checksum_below}
use Rattle.batcher_file.proofs.OneReading.{frame_first}

guard_ok : {A : Type 0} (b : Bool) (d : DecodeFault) (x y : A) → cond b (Ok x) (Err d) ≡ Ok y
    → (b ≡ true) × (x ≡ y)
guard_ok true d x y e = (refl, cc)
guard_ok false d x y e = absurd cc

module _ {A : Type 0} (f : Format A) (exact : IsExact f) where
  sealed_found : (bytes : List ℕ) (x : A) (rest : List ℕ) → AreBytes bytes
      → (sealed_format f).decoding bytes ≡ Ok (x, rest)
      → f.IsValue x × (bytes ≡ sealed (f.encoding x) ++ rest)
  sealed_found bytes x rest are e =
      let a = bind_ok (f.decoding bytes) _ (x, rest) e in
      let b = bind_ok (u64_format.decoding a.0.1) _ (x, rest) a.2 in
      let g = guard_ok (eqb b.0.0 (checksum (f.encoding a.0.0))) Malformed (a.0.0, b.0.1) (x, rest) b.2 in
      let first = exact.found bytes a.0.0 a.0.1 are a.1 in
      let second = u64_is_exact.found a.0.1 b.0.0 b.0.1
      (AreBytes-rest bytes (f.encoding a.0.0) a.0.1 are first.1) b.1 in
      let sum : b.0.0 ≡ checksum (f.encoding a.0.0) = eqb-true b.0.0 (checksum (f.encoding a.0.0)) g.0 in
      let whole : bytes ≡ sealed (f.encoding a.0.0) ++ b.0.1 =
      first.1 ∙ ap (λ t. f.encoding a.0.0 ++ t) (second.1 ∙ ap (λ n. number_bytes w64 n ++ b.0.1) sum)
      ∙ sym (append_assoc (f.encoding a.0.0) (number_bytes w64 (checksum (f.encoding a.0.0))) b.0.1) in
      subst (λ (z : A × List ℕ). f.IsValue z.0 × (bytes ≡ sealed (f.encoding z.0) ++ z.1)) g.1 (first.0, whole)

  sealed_again : (x : A) (rest : List ℕ) → f.IsValue x
      → (sealed_format f).decoding (sealed (f.encoding x) ++ rest) ≡ Ok (x, rest)
  sealed_again x rest value =
      let sum : ℕ = checksum (f.encoding x) in
      ap (sealed_format f).decoding (append_assoc (f.encoding x) (number_bytes w64 sum) rest)
      ∙ rw (exact.again x (number_bytes w64 sum ++ rest) value)
      (rw (u64_is_exact.again sum rest (checksum_below (f.encoding x))) (rw (eq-eqb sum sum refl) refl))

  pub sealed_is_exact : IsExact (sealed_format f)
  sealed_is_exact = record { found = sealed_found; again = sealed_again }

abbrev head_format : Format (ℕ × ℕ)
head_format = pair u64_format u64_format

head_exact : IsExact (sealed_format head_format)
head_exact = sealed_is_exact head_format (pair_is_exact u64_format u64_format u64_is_exact u64_is_exact)

body_exact : (n : ℕ) → IsExact (sealed_format (fixed n))
body_exact n = sealed_is_exact (fixed n) (fixed_is_exact n)

abbrev WasFramed : List ℕ → (ℕ × List ℕ) × List ℕ → Type 0
WasFramed bytes y = frame_format.IsValue y.0 × (bytes ≡ frame_format.encoding y.0 ++ y.1)

frame_found : (bytes : List ℕ) (x : ℕ × List ℕ) (rest : List ℕ) → AreBytes bytes
    → frame_format.decoding bytes ≡ Ok (x, rest) → WasFramed bytes (x, rest)
frame_found bytes x rest are e =
    let a = bind_ok ((sealed_format head_format).decoding bytes) _ (x, rest) e in
    let number : ℕ = a.0.0.0 in
    let count : ℕ = a.0.0.1 in
    let b = bind_ok ((sealed_format (fixed count)).decoding a.0.1) _ (x, rest) a.2 in
    let first = head_exact.found bytes (number, count) a.0.1 are a.1 in
    let second = (body_exact count).found a.0.1 b.0.0 b.0.1
    (AreBytes-rest bytes (sealed (head_format.encoding (number, count))) a.0.1 are first.1) b.1 in
    let parts : bytes ≡ frame number b.0.0 ++ b.0.1 =
    first.1 ∙ ap (λ t. sealed (head_format.encoding (number, count)) ++ t) second.1
    ∙ ap (λ n. sealed (head_format.encoding (number, n)) ++ (sealed b.0.0 ++ b.0.1)) (sym second.0)
    ∙ sym (frame_first number b.0.0 b.0.1) in
    let below : length b.0.0 < 2 ^ 64 = subst (λ n. n < 2 ^ 64) (sym second.0) first.0.1 in
    subst (WasFramed bytes) (ok_is ((number, b.0.0), b.0.1) (x, rest) b.2) ((first.0.0, below), parts)

pub frame_is_exact : IsExact frame_format
frame_is_exact = record {
  found = frame_found;
  again = λ x rest value.
      ap frame_format.decoding (frame_first x.0 x.1 rest)
      ∙ rw (head_exact.again (x.0, length x.1) (sealed x.1 ++ rest) value)
      (rw ((body_exact (length x.1)).again x.1 rest refl) refl);
}

-- what is read at the front, where the bytes are bytes
pub is_frame : (bytes : List ℕ) (number due : ℕ) (inside after : List ℕ)
    → ((i : ℕ) → Fits w8 (get_or bytes i 0)) → number ≡ due
    → frame_format.decoding bytes ≡ Ok ((number, inside), after) → IsFrame due inside after bytes
is_frame bytes number due inside after are is read =
    let found = frame_is_exact.found bytes (number, inside) after (λ i. omega (arith, are i)) read in
    subst (λ n. IsFrame n inside after bytes) is (record { value = found.0; parts = found.1 })

-- a frame that is there is read
pub frame_read : (bytes : List ℕ) (due : ℕ) (inside after : List ℕ)
    → IsFrame due inside after bytes → frame_format.decoding bytes ≡ Ok ((due, inside), after)
frame_read bytes due inside after it =
    ap frame_format.decoding it.parts ∙ frame_is_exact.again (due, inside) after it.value

not_both : {A : Type 0} (x : A) (fault : DecodeFault) → Ok x ≡ Err fault → ⊥
not_both x fault e = absurd cc

pub no_frame : (bytes : List ℕ) (due : ℕ) (fault : DecodeFault)
    → frame_format.decoding bytes ≡ Err fault → (inside after : List ℕ)
    → IsFrame due inside after bytes → ⊥
no_frame bytes due fault read inside after it =
    let wrong : Ok ((due, inside), after) ≡ Err fault = sym (frame_read bytes due inside after it) ∙ read in
    absurd (not_both ((due, inside), after) fault wrong)

pub other_frame : (bytes : List ℕ) (number due : ℕ) (inside after : List ℕ) → number ≢ due
    → frame_format.decoding bytes ≡ Ok ((number, inside), after)
    → (other rest : List ℕ) → IsFrame due other rest bytes → ⊥
other_frame bytes number due inside after differs read other rest it =
    let same : ((number, inside), after) ≡ ((due, other), rest) =
    ok_is ((number, inside), after) ((due, other), rest) (sym read ∙ frame_read bytes due other rest it) in
    differs (ap (λ (p : (ℕ × List ℕ) × List ℕ). p.0.0) same)

-- The frame at the front is one.
pub one_at_front : (bytes : List ℕ) (due : ℕ) (x r y s : List ℕ) → IsFrame due x r bytes
    → IsFrame due y s bytes → (x ≡ y) × (r ≡ s)
one_at_front bytes due x r y s one other =
    let same : ((due, x), r) ≡ ((due, y), s) =
    ok_is ((due, x), r) ((due, y), s) (sym (frame_read bytes due x r one) ∙ frame_read bytes due y s other) in (
      ap (λ (p : (ℕ × List ℕ) × List ℕ). p.0.1) same,
      ap (λ (p : (ℕ × List ℕ) × List ℕ). p.1) same,
    )

-- so two frames are there where another is behind the first
module _ (bytes : List ℕ) (due : ℕ) (x behind : List ℕ) (one : IsFrame due x behind bytes)
    (long : 1 ≤ length behind) where
  abbrev Rest : List ℕ
  Rest = take (length behind - 1) (drop 1 behind)

  pub are_two : (inside after : List ℕ) → IsFrame (due + 1) inside after Rest
      → AreTwoFrames due bytes
  are_two inside after other =
      let split : behind ≡ get_or behind 0 0 ∷ Rest =
      drop_more behind 0 0 (omega arith) ∙ ap (λ t. get_or behind 0 0 ∷ t) (sym (take_rest behind 1)) in
      record {
        first = x;
        second = inside;
        gate = get_or behind 0 0;
        middle = Rest;
        after = after;
        one = subst (λ b. IsFrame due x b bytes) split one;
        other = other;
      }

  pub not_two : ((inside after : List ℕ) → IsFrame (due + 1) inside after Rest → ⊥)
      → AreTwoFrames due bytes → ⊥
  not_two none two =
      let same : behind ≡ two.gate ∷ two.middle =
      (one_at_front bytes due x behind two.first (two.gate ∷ two.middle) one two.one).1 in
      let tails : two.middle ≡ Rest = ap (drop 1) (sym same) ∙ sym (take_rest behind 1) in
      none two.second two.after (subst (IsFrame (due + 1) two.second two.after) tails two.other)

pub nothing_behind : (bytes : List ℕ) (due : ℕ) (x behind : List ℕ) → IsFrame due x behind bytes
    → length behind < 1 → AreTwoFrames due bytes → ⊥
nothing_behind bytes due x behind one short two =
    let same : behind ≡ two.gate ∷ two.middle =
    (one_at_front bytes due x behind two.first (two.gate ∷ two.middle) one two.one).1 in
    absurd (omega (arith, ap length same))

-- the number of the frame behind a gate, where one is there
module _ (file rest : List ℕ) (gate number : ℕ) (inside after : List ℕ) (parts : file ≡ gate ∷ rest)
    (framed : IsFrame number inside after rest) where
  read_behind : frame_format.decoding (take (length file - 1) (drop 1 file))
      ≡ Ok ((number, inside), after)
  read_behind =
      let same : take (length file - 1) (drop 1 file) ≡ rest = take_rest file 1 ∙ ap (drop 1) parts in
      ap frame_format.decoding same ∙ frame_read rest number inside after framed

  pub number_found : (other : ℕ) (x r : List ℕ)
      → frame_format.decoding (take (length file - 1) (drop 1 file)) ≡ Ok ((other, x), r)
      → other ≡ number
  number_found other x r read =
      ap (λ (p : (ℕ × List ℕ) × List ℕ). p.0.0)
      (ok_is ((other, x), r) ((number, inside), after) (sym read ∙ read_behind))

  pub number_missed : (fault : DecodeFault)
      → frame_format.decoding (take (length file - 1) (drop 1 file)) ≡ Err fault → ⊥
  number_missed fault read = not_both ((number, inside), after) fault (sym read_behind ∙ read)
