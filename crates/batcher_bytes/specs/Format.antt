-- Formats: which values there are, the one encoding of each, and what bytes begin with.
use Rattle.std.specs.Prelude.{◌≡◌, ◌<◌, ◌≤◌, ◌^◌, ◌++◌, ℕ, List, [], ◌∷◌, Result, Ok, Err, length}
use Rattle.std.specs.Prelude.{take, drop, slice_index, nat_lt, if◌then◌else◌}
use Rattle.std.specs.Int.{Width, w32, w64, byte_len, from_be_bytes, to_be_bytes}
use Rattle.batcher_bytes.specs.declared.fault.DecodeFault.{DecodeFault}
use Rattle.batcher_bytes.specs.declared.fault.DecodeFault.TheVariants.{Short, Trailing}

-- The next step after one that found a value. The first fault is that of the whole.
infixl 10 ◌>>=◌
abbrev pub ◌>>=◌ : {A B : Type 0} → Result A DecodeFault → (A → Result B DecodeFault)
    → Result B DecodeFault
(Ok x) >>= f = f x
(Err e) >>= f = Err e

-- Which values there are, the bytes of each, and what bytes begin with: a value and the bytes after
-- it, or the first fault.
pub record Format (A : Type 0) : Type 1 where
  pub IsValue : A → Type 0
  pub encoding : A → List ℕ
  pub decoding : List ℕ → Result (A × List ℕ) DecodeFault

abbrev pub AreBytes : List ℕ → Type 0
AreBytes bytes = (i : ℕ) → slice_index bytes i < 256

-- What is decoded was encoded, and what is encoded is decoded, whatever follows it.
pub record IsExact {A : Type 0} (f : Format A) : Type 0 where
  pub found : (bytes : List ℕ) (x : A) (rest : List ℕ) → AreBytes bytes
      → f.decoding bytes ≡ Ok (x, rest) → f.IsValue x × (bytes ≡ f.encoding x ++ rest)
  pub again : (x : A) (rest : List ℕ) → f.IsValue x
      → f.decoding (f.encoding x ++ rest) ≡ Ok (x, rest)

-- No encoding begins another: where two do, the values are one, and so is what follows.
abbrev pub IsPrefixFree : {A : Type 0} → Format A → Type 0
IsPrefixFree {A} f = (x y : A) (r s : List ℕ) → f.IsValue x → f.IsValue y
    → f.encoding x ++ r ≡ f.encoding y ++ s → (x ≡ y) × (r ≡ s)

-- the first n bytes are the value's
pub record IsEncodedAt {A : Type 0} (f : Format A) (bytes : List ℕ) (x : A) (n : ℕ) : Type 0 where
  pub within : n ≤ length bytes
  pub value : f.IsValue x
  pub same : take n bytes ≡ f.encoding x

-- What a function answered, seen by `view`, is what is decoded.
abbrev pub Decodes : {X Y : Type 0} → (X → Y) → Result X DecodeFault → Result Y DecodeFault
    → Type 0
Decodes view (Ok x) decoded = decoded ≡ Ok (view x)
Decodes view (Err e) decoded = decoded ≡ Err e

-- new is old, perhaps with more bytes behind it
abbrev pub StartsWith : List ℕ → List ℕ → Type 0
StartsWith old new = take (length old) new ≡ old

-- nothing follows
abbrev pub at_end : {A : Type 0} → A × List ℕ → Result A DecodeFault
at_end (x, []) = Ok x
at_end (x, b ∷ rest) = Err Trailing

-- the value that the bytes are, and nothing else
abbrev pub whole : {A : Type 0} → Format A → List ℕ → Result A DecodeFault
whole f bytes = f.decoding bytes >>= at_end

-- the next n bytes
abbrev pub fixed : ℕ → Format (List ℕ)
fixed n = record {
  IsValue = λ bytes. length bytes ≡ n;
  encoding = λ bytes. bytes;
  decoding = λ bytes. if nat_lt (length bytes) n then Err Short
      else Ok (take n bytes, drop n bytes);
}

-- a number in so many bytes, the highest first
abbrev pub number_at : Width → List ℕ → Result (ℕ × List ℕ) DecodeFault
number_at w bytes =
    if nat_lt (length bytes) (byte_len w) then Err Short
    else Ok (from_be_bytes w (take (byte_len w) bytes), drop (byte_len w) bytes)

unfoldable pub number_bytes : Width → ℕ → List ℕ
number_bytes w n = to_be_bytes w n

abbrev pub number : Width → ℕ → Format ℕ
number w limit = record {
  IsValue = λ n. n < limit;
  encoding = number_bytes w;
  decoding = number_at w;
}

abbrev pub u32_format : Format ℕ
u32_format = number w32 (2 ^ 32)

abbrev pub u64_format : Format ℕ
u64_format = number w64 (2 ^ 64)

-- how many bytes there are, and then they
abbrev pub bytes_format : Format (List ℕ)
bytes_format = record {
  IsValue = λ bytes. length bytes < 2 ^ 64;
  encoding = λ bytes. number_bytes w64 (length bytes) ++ bytes;
  decoding = λ bytes. number_at w64 bytes >>= λ n. (fixed n.0).decoding n.1;
}

-- one value after another
abbrev pub pair : {A B : Type 0} → Format A → Format B → Format (A × B)
pair f g = record {
  IsValue = λ p. f.IsValue p.0 × g.IsValue p.1;
  encoding = λ p. f.encoding p.0 ++ g.encoding p.1;
  decoding = λ bytes. f.decoding bytes >>= λ a. g.decoding a.1 >>= λ b. Ok ((a.0, b.0), b.1);
}

-- the same bytes for a value of another type
abbrev pub mapped : {A B : Type 0} → (A → B) → (B → A) → Format A → Format B
mapped there back f = record {
  IsValue = λ y. f.IsValue (back y);
  encoding = λ y. f.encoding (back y);
  decoding = λ bytes. f.decoding bytes >>= λ x. Ok (there x.0, x.1);
}
