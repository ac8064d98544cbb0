-- The checksum of bytes, by FNV-1a, and what has one behind it.
use Rattle.std.specs.Prelude.{◌++◌, ◌*◌, ◌%◌, ◌^◌, ℕ, List, Ok, Err, bit_xor, if◌then◌else◌, nat_eq}
use Rattle.std.specs.List.{fold}
use Rattle.std.specs.Int.{w64}
use Rattle.batcher_bytes.specs.Format.{◌>>=◌, Format, number_bytes, u64_format}
use Rattle.batcher_bytes.specs.declared.fault.DecodeFault.TheVariants.{Malformed}

-- one byte more
abbrev pub summed : ℕ → ℕ → ℕ
summed sum byte = (bit_xor sum byte * 1099511628211) % 2 ^ 64

abbrev pub checksum : List ℕ → ℕ
checksum bytes = fold summed 14695981039346656037 bytes

-- bytes with their checksum behind them
abbrev pub sealed : List ℕ → List ℕ
sealed bytes = bytes ++ number_bytes w64 (checksum bytes)

-- the same of a value's encoding
abbrev pub sealed_format : {A : Type 0} → Format A → Format A
sealed_format f = record {
  IsValue = f.IsValue;
  encoding = λ x. sealed (f.encoding x);
  decoding = λ bytes. f.decoding bytes >>= λ x. u64_format.decoding x.1 >>= λ sum.
      if nat_eq sum.0 (checksum (f.encoding x.0)) then Ok (x.0, sum.1) else Err Malformed;
}
