-- The bytes of signatures, and of certificates with their verdicts.
use Rattle.std.specs.Prelude.{◌≡◌, ◌++◌, ℕ, zero, suc, Bool, true, false, List, [], ◌∷◌, Result, Ok}
use Rattle.std.specs.Prelude.{Err, cond, drop, if◌then◌else◌, length, nat_lt}
use Rattle.std.proofs.Common.{ap, refl, subst}
use Rattle.std.proofs.lemmas.Bool.{le-ltb, ltb-false}
use Rattle.batcher_types.specs.declared.messages.Sha256Digest.{Sha256Digest}
use Rattle.batcher_types.specs.declared.messages.Subject.{Subject}
use Rattle.batcher_bytes.specs.Exact.{bind_ok, bytes_is_exact, fixed_is_exact, mapped_is_exact}
use Rattle.batcher_bytes.specs.Exact.{ok_is, pair_is_exact}
use Rattle.batcher_bytes.specs.Format.{◌>>=◌, AreBytes, Format, IsExact, bytes_format, fixed}
use Rattle.batcher_bytes.specs.Format.{mapped, pair}
use Rattle.batcher_bytes.specs.Lawful.{sha256_is_exact, subject_is_exact}
use Rattle.batcher_bytes.specs.Messages.{sha256_format, subject_format}
use Rattle.batcher_bytes.specs.declared.fault.DecodeFault.{DecodeFault}
use Rattle.batcher_bytes.specs.declared.fault.DecodeFault.TheVariants.{Kind, Malformed, Short}
use Rattle.batcher_bytes.specs.Signatures.{IsPadded, are_zeros}
use Rattle.batcher_bytes.specs.declared.signature.Signature.{Signature}
use Rattle.batcher_bytes.specs.declared.signature.TheConstants.{WIDTH}

-- A certificate as bytes, and whether it is one of its subject.
pub record ProofView : Type 0 where
  pub subject : Subject Sha256Digest
  pub certifies : Bool
  pub bytes : List ℕ

-- the signature of so many of these bytes, if zeros are after them
abbrev pub padded_at : ℕ → (List ℕ × List ℕ) → Result (Signature × List ℕ) DecodeFault
padded_at n b =
    if are_zeros (drop n b.0) then Ok (record { length = n; bytes = b.0 }, b.1) else Err Malformed

-- how many bytes a signature has, at most `WIDTH`, and then these, with the zeros after them
abbrev pub signature_at : List ℕ → Result (Signature × List ℕ) DecodeFault
signature_at [] = Err Short
signature_at (n ∷ rest) =
    if nat_lt WIDTH n then Err Malformed else (fixed WIDTH).decoding rest >>= padded_at n

abbrev pub signature_format : Format Signature
signature_format = record {
  IsValue = λ s. (length s.bytes ≡ WIDTH) × IsPadded s;
  encoding = λ s. s.length ∷ s.bytes;
  decoding = signature_at;
}

-- what a length and then other bytes give
abbrev IsFound : ℕ → List ℕ → Signature × List ℕ → Type 0
IsFound n bytes y =
    ((length y.0.bytes ≡ WIDTH) × IsPadded y.0)
    × (n ∷ bytes ≡ (y.0.length ∷ y.0.bytes) ++ y.1)

-- a test that was passed, and one that wasn't failed
passed_ok : {A : Type 0} (b : Bool) (x y : A) → cond b (Ok x) (Err Malformed) ≡ Ok y
    → (b ≡ true) × (x ≡ y)
passed_ok true x y e = (refl, cc)
passed_ok false x y e = absurd cc

guarded_ok : {A : Type 0} (b : Bool) (r : Result A DecodeFault) (y : A)
    → cond b (Err Malformed) r ≡ Ok y → (b ≡ false) × (r ≡ Ok y)
guarded_ok true r y e = absurd cc
guarded_ok false r y e = (refl, e)

signature_found : (bytes : List ℕ) (x : Signature) (rest : List ℕ) → AreBytes bytes
    → signature_at bytes ≡ Ok (x, rest) → signature_format.IsValue x
    × (bytes ≡ (x.length ∷ x.bytes) ++ rest)
signature_found [] x rest are e = absurd cc
signature_found (n ∷ bytes) x rest are e =
    let read = (fixed WIDTH).decoding bytes in
    let g = guarded_ok (nat_lt WIDTH n) (read >>= padded_at n) (x, rest) e in
    let a = bind_ok read (padded_at n) (x, rest) g.1 in
    let t = (fixed_is_exact WIDTH).found bytes a.0.0 a.0.1 (λ i. are (suc i)) a.1 in
    let p =
    passed_ok (are_zeros (drop n a.0.0)) (record { length = n; bytes = a.0.0 }, a.0.1)
    (x, rest) a.2 in
    subst (IsFound n bytes) p.1 (
      (t.0, record { fits = ltb-false _ _ g.0; zeros = p.0 }),
      ap (λ bs. n ∷ bs) t.1,
    )

signature_again : (x : Signature) (rest : List ℕ) → signature_format.IsValue x
    → signature_at ((x.length ∷ x.bytes) ++ rest) ≡ Ok (x, rest)
signature_again x rest value =
    let fits : nat_lt WIDTH x.length ≡ false = le-ltb _ _ value.1.fits in
    rw (fits, (fixed_is_exact WIDTH).again x.bytes rest value.0, value.1.zeros) refl

pub signature_is_exact : IsExact signature_format
signature_is_exact = record { found = signature_found; again = signature_again }

-- a byte for whether it is so
abbrev pub flag_byte : Bool → ℕ
flag_byte false = 0
flag_byte true = 1

abbrev pub flag_at : List ℕ → Result (Bool × List ℕ) DecodeFault
flag_at [] = Err Short
flag_at (zero ∷ rest) = Ok (false, rest)
flag_at (suc zero ∷ rest) = Ok (true, rest)
flag_at (suc (suc b) ∷ rest) = Err Kind

abbrev pub flag_format : Format Bool
flag_format = record {
  IsValue = λ b. Unit {0};
  encoding = λ b. flag_byte b ∷ [];
  decoding = flag_at;
}

flag_found : (bytes : List ℕ) (x : Bool) (rest : List ℕ) → flag_at bytes ≡ Ok (x, rest)
    → bytes ≡ (flag_byte x ∷ []) ++ rest
flag_found [] x rest e = absurd cc
flag_found (zero ∷ bytes) x rest e =
    subst (λ (y : Bool × List ℕ). 0 ∷ bytes ≡ (flag_byte y.0 ∷ []) ++ y.1)
    (ok_is (false, bytes) (x, rest) e) refl
flag_found (suc zero ∷ bytes) x rest e =
    subst (λ (y : Bool × List ℕ). 1 ∷ bytes ≡ (flag_byte y.0 ∷ []) ++ y.1)
    (ok_is (true, bytes) (x, rest) e) refl
flag_found (suc (suc b) ∷ bytes) x rest e = absurd cc

flag_again : (x : Bool) (rest : List ℕ) → flag_at ((flag_byte x ∷ []) ++ rest) ≡ Ok (x, rest)
flag_again false rest = refl
flag_again true rest = refl

pub flag_is_exact : IsExact flag_format
flag_is_exact = record {
  found = λ bytes x rest are e. (tt, flag_found bytes x rest e);
  again = λ x rest value. flag_again x rest;
}

-- subject, verdict and bytes
abbrev pub proof_format : Format ProofView
proof_format =
    mapped (λ p. record { subject = p.0; certifies = p.1.0; bytes = p.1.1 })
    (λ r. (r.subject, (r.certifies, r.bytes)))
    (pair (subject_format sha256_format) (pair flag_format bytes_format))

pub proof_is_exact : IsExact proof_format
proof_is_exact =
    mapped_is_exact _ _ (pair (subject_format sha256_format) (pair flag_format bytes_format))
    (λ x. refl) (λ y. refl)
    (pair_is_exact (subject_format sha256_format) (pair flag_format bytes_format)
    (subject_is_exact sha256_format sha256_is_exact)
    (pair_is_exact flag_format bytes_format flag_is_exact bytes_is_exact))
