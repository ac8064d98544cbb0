-- What a caller has verified, by what the scheme of its round means.
use Rattle.batcher_ffi.proofs.Words.{AreIn, Attestation, Batchable, Bool, CRound, FlatAttestation, List, OneByOne, SHORT, SameAny}
use Rattle.batcher_ffi.proofs.Words.{Sha256Digest, Signature, Subject, [], ℕ, ◌&&◌, ◌↔◌, ◌∙◌, ◌∷◌, ◌≡◌, ◌≢◌, and_parts, ap, arith, attestation_in}
use Rattle.batcher_ffi.proofs.Words.{common_steps, config_of_handle, false, is_attested, is_none, is_short, keys_in, length, length-map, list_all}
use Rattle.batcher_ffi.proofs.Words.{list_any, map, nat_lt, refl, sym, true, true≢false}
use Rattle.std.specs.Prelude.{◌==◌, Some}

pub attests_if : (r : CRound) (subject : Subject Sha256Digest) (a : Attestation Signature)
    → (config_of_handle r).meaning.attests subject a
    ≡ (nat_lt a.signer.0 (length (config_of_handle r).meaning.participants)
    && is_attested (keys_in r) subject a)
attests_if (Batchable judged) subject a = refl
attests_if (OneByOne judged) subject a = refl

and_true : (a b : Bool) → a ≡ true → (a && b) ≡ b
and_true true b h = refl
and_true false b h = absurd (cc)

-- Where all signers take part, each verdict is the scheme's.
each_attests : (n : ℕ) (holds attests : Attestation Signature → Bool)
    → ((a : Attestation Signature) → attests a ≡ (nat_lt a.signer.0 n && holds a))
    → (all : List (Attestation Signature)) → list_all (λ a. nat_lt a.signer.0 n) all ≡ true
    → map holds all ≡ map attests all
each_attests n holds attests if [] h = refl
each_attests n holds attests if (a ∷ all) h =
    let both = and_parts (nat_lt a.signer.0 n) (list_all (λ b. nat_lt b.signer.0 n) all) h in
    let first : attests a ≡ holds a = if a ∙ and_true _ _ both.0 in
    rw (first, each_attests n holds attests if all both.1) refl

pub all_attest : (r : CRound) (subject : Subject Sha256Digest)
    (all : List (Attestation Signature))
    → list_all (λ a. nat_lt a.signer.0 (length (config_of_handle r).meaning.participants)) all
    ≡ true
    → map (is_attested (keys_in r) subject) all ≡ map
    ((config_of_handle r).meaning.attests subject) all
all_attest r subject all h =
    each_attests (length (config_of_handle r).meaning.participants) (is_attested (keys_in r) subject)
    ((config_of_handle r).meaning.attests subject) (attests_if r subject) all h

-- A call that changes nothing changes nothing of the round.
pub same_self : (r : CRound) → SameAny r r
same_self (Batchable judged) = (refl, refl, refl)
same_self (OneByOne judged) = (refl, refl, refl)

some_both : {A : Type 0} (a b : A) (xs ys : List A)
    → (Some a ∷ map Some xs) ≡ (Some b ∷ map Some ys) → (a ≡ b) × (map Some xs ≡ map Some ys)
some_both a b xs ys h = (cc, cc)

-- The attestations of a list are the same, whoever reads it.
pub same_read : (list : List FlatAttestation) (xs ys : List (Attestation Signature))
    → AreIn list xs → AreIn list ys → xs ≡ ys
same_read list xs ys one other = same_of xs ys (sym one ∙ other)
  where
    same_of : (xs ys : List (Attestation Signature)) → map Some xs ≡ map Some ys → xs ≡ ys
    same_of [] [] h = refl
    same_of [] (b ∷ ys) h = absurd (cc)
    same_of (a ∷ xs) [] h = absurd (cc)
    same_of (a ∷ xs) (b ∷ ys) h =
        let p = some_both a b xs ys h in rw (p.0, same_of xs ys p.1) refl

pub as_long : (list : List FlatAttestation) (xs : List (Attestation Signature)) → AreIn list xs
    → length list ≡ length xs
as_long list xs is =
    sym (length-map list attestation_in) ∙ (ap length is ∙ length-map xs Some)

-- Of what is read none is missing.
pub none_missing : (list : List FlatAttestation) (xs : List (Attestation Signature))
    → AreIn list xs → list_any (λ flat. is_none (attestation_in flat)) list ≡ true → ⊥
none_missing [] xs is any = absurd (cc)
none_missing (flat ∷ list) [] is any = absurd (cc)
none_missing (flat ∷ list) (x ∷ xs) is any =
    let first : attestation_in flat ≡ Some x = cc in
    let rest : map attestation_in list ≡ map Some xs = cc in
    none_missing list xs rest (rw first at any)

-- Whether a list is empty.
pub none_left : {A : Type 0} (xs : List A) → (length xs == 0) ≡ true → xs ≡ []
none_left xs h = grind (arith, common_steps, h)

pub some_left : {A : Type 0} (xs : List A) → (length xs == 0) ≡ false → xs ≢ []
some_left [] h none = true≢false h
some_left (x ∷ xs) h none = absurd (cc)

-- Where the lists aren't short, no code says so.
pub not_short : (code n m : ℕ) (room : List FlatAttestation) (signers_room : List ℕ) (b : Bool)
    → b ≡ is_short m room signers_room → m ≡ n → b ≡ false → code ≢ SHORT
    → (code ≡ SHORT) ↔ (is_short n room signers_room ≡ true)
not_short code n m room signers_room b by same fits other = (
  λ is. absurd (other is),
  λ yes. absurd (true≢false (sym yes ∙ (ap (λ k. is_short k room signers_room) (sym same)
      ∙ (sym by ∙ fits)))),
)
