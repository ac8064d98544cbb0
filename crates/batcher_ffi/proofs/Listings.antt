-- What is read of the bytes of a certificate.
use Rattle.batcher_ffi.proofs.Words.{◌≡◌, ◌∙◌, ◌<◌, ◌&&◌, ℕ, Bool, true, false, List, [], ◌∷◌, length, list_all, None, Ok, ap, arith, refl, sym, nat_lt}
use Rattle.batcher_ffi.proofs.Words.{Attestation, Signature, signature_format, attestation_format, Format, is_quorum_among, listing_at, listing_in}
use Rattle.batcher_ffi.proofs.Words.{signers_differ}
use Rattle.std.proofs.Common.{zero, suc}
use Rattle.std.proofs.lemmas.Bool.{lt-leb}
use Rattle.std.specs.Int.{w64}
use Rattle.std.specs.Prelude.{Err, Result, nat_le}
use Rattle.batcher_types.specs.Quorum.{quorum_of}
use Rattle.batcher_bytes.specs.Exact.{bind_ok, ok_is}
use Rattle.batcher_bytes.specs.Format.{◌>>=◌, number_at}
use Rattle.batcher_bytes.specs.Lists.{items_at}
use Rattle.batcher_bytes.specs.declared.fault.DecodeFault.{DecodeFault}

-- As many are read as are said.
items_count : {A : Type 0} (f : Format A) (n : ℕ) (bytes : List ℕ) (x : List A × List ℕ)
    → items_at f n bytes ≡ Ok x → length x.0 ≡ n
unfolding items_at
items_count {A} f zero bytes x e =
    ap (λ (y : List A × List ℕ). length y.0) (sym (ok_is ([], bytes) x e))
items_count {A} f (suc n) bytes x e =
    let a = bind_ok (f.decoding bytes)
    (λ first. items_at f n first.1 >>= λ others. Ok (first.0 ∷ others.0, others.1)) x e in
    let b = bind_ok (items_at f n a.0.1) (λ others. Ok (a.0.0 ∷ others.0, others.1)) x a.2 in
    let made : List A × List ℕ = (a.0.0 ∷ b.0.0, b.0.1) in
    ap (λ (y : List A × List ℕ). length y.0) (sym (ok_is made x b.2))
    ∙ ap suc (items_count f n a.0.1 b.0 b.1)

not_both : (a b c : Bool) → b ≡ false → (a && (b && c)) ≡ false
not_both true false c e = refl
not_both false false c e = refl
not_both a true c e = absurd (cc)

too_many : (n : ℕ) (all : List (Attestation Signature)) → n < length all
    → is_quorum_among n all ≡ false
too_many n all beyond =
    not_both (nat_le (quorum_of n) (length all)) (nat_le (length all) n)
    (list_all (λ a. nat_lt a.signer.0 n) all && signers_differ all) (lt-leb (length all) n beyond)

none_of_items : (n count : ℕ) (read : Result (List (Attestation Signature) × List ℕ) DecodeFault)
    → ((x : List (Attestation Signature) × List ℕ) → read ≡ Ok x → length x.0 ≡ count)
    → n < count → listing_at n read ≡ None
none_of_items n count (Ok (all, [])) counted beyond =
    rw (too_many n all (omega (arith, counted (all, []) refl))) refl
none_of_items n count (Ok (all, b ∷ rest)) counted beyond = refl
none_of_items n count (Err fault) counted beyond = refl

-- Bytes that say they list more than there are participants list no quorum.
pub none_beyond : (n count : ℕ) (bytes rest : List ℕ) → number_at w64 bytes ≡ Ok (count, rest)
    → n < count → listing_in n bytes ≡ None
none_beyond n count bytes rest e beyond =
    rw e (none_of_items n count (items_at (attestation_format signature_format) count rest)
    (λ x is. items_count (attestation_format signature_format) count rest x is) beyond)
