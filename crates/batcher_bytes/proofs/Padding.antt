-- Bytes with zeros after them.
use Rattle.batcher_bytes.proofs.Words.{◌≡◌, ◌-◌, ◌≤◌, ◌++◌, ℕ, zero, suc, List, true, length, drop, replicate, refl, drop_at, drop-replicate, Signature}
use Rattle.batcher_bytes.proofs.Words.{signature_of, IsPadded, are_zeros, WIDTH}

abbrev filled_with : List ℕ → List ℕ → Signature
filled_with bytes filled =
    record { length = length bytes; bytes = filled ++ drop (length bytes) (replicate WIDTH 0) }

pub padded_is : (bytes filled : List ℕ) → filled ≡ bytes
    → filled_with bytes filled ≡ signature_of bytes
padded_is bytes filled same = rw (same, drop-replicate {X = ℕ} (length bytes) WIDTH 0) refl

zeros_are : (n : ℕ) → are_zeros (replicate n 0) ≡ true
zeros_are zero = refl
zeros_are (suc n) = zeros_are n

of_bytes : (bytes : List ℕ) → length bytes ≤ WIDTH → IsPadded (signature_of bytes)
of_bytes bytes fits = record {
  fits = fits;
  zeros =
      rw (drop_at bytes (replicate (WIDTH - length bytes) 0) (length bytes) refl)
      (zeros_are (WIDTH - length bytes));
}

pub is_padded : (bytes filled : List ℕ) → length bytes ≤ WIDTH → filled ≡ bytes
    → IsPadded (filled_with bytes filled)
is_padded bytes filled fits same = rw (padded_is bytes filled same) (of_bytes bytes fits)
