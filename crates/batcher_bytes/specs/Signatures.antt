-- Signatures as bytes.
use Rattle.std.specs.Prelude.{◌≡◌, ◌≤◌, ℕ, Bool, ◌-◌, ◌++◌, List, drop, length, nat_eq, replicate}
use Rattle.std.specs.Prelude.{true}
use Rattle.std.specs.List.{list_all}
use Rattle.batcher_bytes.specs.declared.signature.TheConstants.{WIDTH}

-- how many bytes a signature has, and then these, with zeros after them
pub record SignatureView : Type 0 where
  pub length : ℕ
  pub bytes : List ℕ

abbrev pub are_zeros : List ℕ → Bool
are_zeros bytes = list_all (λ b. nat_eq b 0) bytes

-- It has at most `WIDTH` bytes, and zeros are after them.
pub record IsPadded (s : SignatureView) : Type 0 where
  pub fits : s.length ≤ WIDTH
  pub zeros : are_zeros (drop s.length s.bytes) ≡ true

-- the signature of these bytes, which are at most `WIDTH`: zeros are after them
abbrev pub signature_of : List ℕ → SignatureView
signature_of bytes =
    record { length = length bytes; bytes = bytes ++ replicate (WIDTH - length bytes) 0 }
