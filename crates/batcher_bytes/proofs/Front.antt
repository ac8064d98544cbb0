-- What is at the front of bytes, behind the version.
use Rattle.batcher_bytes.proofs.Words.{◌≡◌, Fits, ℕ, List, Ok, arith, get_or, w8, IsDecodedAt, is_decoded_at, Format, IsExact, versioned_is_exact, versioned}

pub at_front : {A : Type 0} (f : Format A) → IsExact f → (bytes : List ℕ) (x : A) (rest : List ℕ)
    → ((i : ℕ) → Fits w8 (get_or bytes i 0)) → (versioned f).decoding bytes ≡ Ok (x, rest)
    → IsDecodedAt (versioned f) bytes x rest
at_front f exact bytes x rest are decoded =
    is_decoded_at (versioned f) (versioned_is_exact f exact) bytes x rest (λ i. omega (arith, are i))
    decoded
