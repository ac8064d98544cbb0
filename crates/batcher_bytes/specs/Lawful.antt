-- The formats of what travels are exact.
use Rattle.std.specs.Prelude.{◌≡◌, ◌++◌, ℕ, zero, suc, List, [], ◌∷◌, Some, None, Result, Ok}
use Rattle.std.proofs.Common.{◌∙◌, ap, append_assoc, refl, subst, sym}
use Rattle.batcher_types.specs.Votes.{attestation_of, content_of, subject_certified, subject_of}
use Rattle.batcher_types.specs.declared.messages.Activity.{Activity}
use Rattle.batcher_types.specs.declared.messages.Activity.TheVariants as activities
use Rattle.batcher_types.specs.declared.messages.Attestation.{Attestation}
use Rattle.batcher_types.specs.declared.messages.Certificate.{Certificate}
use Rattle.batcher_types.specs.declared.messages.Certificate.TheVariants as certificates
use Rattle.batcher_types.specs.declared.messages.Subject.{Subject}
use Rattle.batcher_types.specs.declared.messages.Subject.TheVariants as subjects
use Rattle.batcher_types.specs.declared.messages.Vote.{Vote}
use Rattle.batcher_types.specs.declared.messages.Vote.TheVariants as votes
use Rattle.batcher_bytes.specs.declared.fault.DecodeFault.{DecodeFault}
use Rattle.batcher_bytes.specs.Exact.{AreBytes-rest, bind_ok, bytes_is_exact, exact_is_prefix_free}
use Rattle.batcher_bytes.specs.Exact.{fixed_is_exact, mapped_is_exact, ok_is, pair_is_exact}
use Rattle.batcher_bytes.specs.Exact.{u32_is_exact, u64_is_exact}
use Rattle.batcher_bytes.specs.Format.{◌>>=◌, AreBytes, Format, IsExact, bytes_format, fixed, pair}
use Rattle.batcher_bytes.specs.Format.{u32_format, u64_format}
use Rattle.batcher_bytes.specs.Messages.{IsSubject, activity_at, activity_format, activity_of}
use Rattle.batcher_bytes.specs.Messages.{attestation_format, certificate_from, certificate_format}
use Rattle.batcher_bytes.specs.Messages.{evidence_of, proposal_format, round_format, sha256_format}
use Rattle.batcher_bytes.specs.Messages.{signing_format, subject_at, subject_bytes, subject_format}
use Rattle.batcher_bytes.specs.Messages.{versioned, versioned_at, vote_from, vote_format}
use Rattle.batcher_bytes.specs.Messages.{votes_reported}

pub sha256_is_exact : IsExact sha256_format
sha256_is_exact =
    mapped_is_exact (λ bytes. record { 0 = bytes }) (λ digest. digest.0) (fixed 32) (λ x. refl)
    (λ y. refl) (fixed_is_exact 32)

pub round_is_exact : IsExact round_format
round_is_exact =
    mapped_is_exact _ _ (pair u64_format u64_format) (λ x. refl) (λ y. refl)
    (pair_is_exact u64_format u64_format u64_is_exact u64_is_exact)

module _ {D : Type 0} (d : Format D) (exact : IsExact d) where
  pub proposal_is_exact : IsExact (proposal_format d)
  proposal_is_exact =
      mapped_is_exact _ _ (pair round_format (pair u64_format d)) (λ x. refl) (λ y. refl)
      (pair_is_exact round_format (pair u64_format d) round_is_exact
      (pair_is_exact u64_format d u64_is_exact exact))

  -- what a kind and then a value of another format give
  abbrev Found : ℕ → List ℕ → Subject D × List ℕ → Type 0
  Found kind bytes y = IsSubject d y.0 × (kind ∷ bytes ≡ subject_bytes d y.0 ++ y.1)

  subject_found : (bytes : List ℕ) (x : Subject D) (rest : List ℕ) → AreBytes bytes
      → subject_at d bytes ≡ Ok (x, rest) → IsSubject d x × (bytes ≡ subject_bytes d x ++ rest)
  subject_found [] x rest are e = absurd cc
  subject_found (zero ∷ bytes) x rest are e =
      let a = bind_ok ((proposal_format d).decoding bytes) (λ v. Ok (subjects.Notarize v.0, v.1))
      (x, rest) e in
      let t = proposal_is_exact.found bytes a.0.0 a.0.1 (λ i. are (suc i)) a.1 in
      let made : Subject D × List ℕ = (subjects.Notarize a.0.0, a.0.1) in
      subst (Found 0 bytes) (ok_is made (x, rest) a.2) (t.0, ap (λ bs. 0 ∷ bs) t.1)
  subject_found (suc zero ∷ bytes) x rest are e =
      let a = bind_ok (round_format.decoding bytes) (λ v. Ok (subjects.Nullify v.0, v.1))
      (x, rest) e in
      let t = round_is_exact.found bytes a.0.0 a.0.1 (λ i. are (suc i)) a.1 in
      let made : Subject D × List ℕ = (subjects.Nullify a.0.0, a.0.1) in
      subst (Found 1 bytes) (ok_is made (x, rest) a.2) (t.0, ap (λ bs. 1 ∷ bs) t.1)
  subject_found (suc (suc zero) ∷ bytes) x rest are e =
      let a = bind_ok ((proposal_format d).decoding bytes) (λ v. Ok (subjects.Finalize v.0, v.1))
      (x, rest) e in
      let t = proposal_is_exact.found bytes a.0.0 a.0.1 (λ i. are (suc i)) a.1 in
      let made : Subject D × List ℕ = (subjects.Finalize a.0.0, a.0.1) in
      subst (Found 2 bytes) (ok_is made (x, rest) a.2) (t.0, ap (λ bs. 2 ∷ bs) t.1)
  subject_found (suc (suc (suc b)) ∷ bytes) x rest are e = absurd cc

  subject_again : (x : Subject D) (rest : List ℕ) → IsSubject d x
      → subject_at d (subject_bytes d x ++ rest) ≡ Ok (x, rest)
  subject_again (subjects.Notarize it) rest value = rw (proposal_is_exact.again it rest value) refl
  subject_again (subjects.Nullify it) rest value = rw (round_is_exact.again it rest value) refl
  subject_again (subjects.Finalize it) rest value = rw (proposal_is_exact.again it rest value) refl

  pub subject_is_exact : IsExact (subject_format d)
  subject_is_exact = record { found = subject_found; again = subject_again }

pub attestation_is_exact : {G : Type 0} (g : Format G) → IsExact g
    → IsExact (attestation_format g)
attestation_is_exact g exact =
    mapped_is_exact _ _ (pair u32_format g) (λ x. refl) (λ y. refl)
    (pair_is_exact u32_format g u32_is_exact exact)

module _ {G D : Type 0} where
  parts_of_vote : (p : Subject D × Attestation G)
      → (subject_of (vote_from p), attestation_of (vote_from p)) ≡ p
  parts_of_vote (subjects.Notarize it, a) = refl
  parts_of_vote (subjects.Nullify it, a) = refl
  parts_of_vote (subjects.Finalize it, a) = refl

  vote_of_parts : (v : Vote G D) → vote_from (subject_of v, attestation_of v) ≡ v
  vote_of_parts (votes.Notarize v) = refl
  vote_of_parts (votes.Nullify v) = refl
  vote_of_parts (votes.Finalize v) = refl

  parts_of_certificate : (p : Subject D × G)
      → (subject_certified (certificate_from p), content_of (certificate_from p)) ≡ p
  parts_of_certificate (subjects.Notarize it, c) = refl
  parts_of_certificate (subjects.Nullify it, c) = refl
  parts_of_certificate (subjects.Finalize it, c) = refl

  certificate_of_parts : (c : Certificate G D)
      → certificate_from (subject_certified c, content_of c) ≡ c
  certificate_of_parts (certificates.Notarization c) = refl
  certificate_of_parts (certificates.Nullification c) = refl
  certificate_of_parts (certificates.Finalization c) = refl

module _ {G D : Type 0} (g : Format G) (d : Format D) (of_g : IsExact g) (of_d : IsExact d) where
  pub vote_is_exact : IsExact (vote_format g d)
  vote_is_exact =
      mapped_is_exact vote_from (λ v. (subject_of v, attestation_of v))
      (pair (subject_format d) (attestation_format g)) parts_of_vote vote_of_parts
      (pair_is_exact (subject_format d) (attestation_format g) (subject_is_exact d of_d)
      (attestation_is_exact g of_g))

  pub certificate_is_exact : IsExact (certificate_format g d)
  certificate_is_exact =
      mapped_is_exact certificate_from (λ it. (subject_certified it, content_of it))
      (pair (subject_format d) g) parts_of_certificate certificate_of_parts
      (pair_is_exact (subject_format d) g (subject_is_exact d of_d) of_g)

abbrev found : {A : Type 0} → A → Result A DecodeFault
found x = Ok x

found_is : {A : Type 0} {x y : A} → found x ≡ found y → x ≡ y
found_is e = cc

module _ {G D : Type 0} where
  votes_of_one : (v : Vote G D) → votes_reported (activity_of v) ≡ (v, None)
  votes_of_one (votes.Notarize v) = refl
  votes_of_one (votes.Nullify v) = refl
  votes_of_one (votes.Finalize v) = refl

  votes_of_two : (v w : Vote G D) (it : Activity G D) → evidence_of v w ≡ Ok it
      → votes_reported it ≡ (v, Some w)
  votes_of_two (votes.Notarize v) (votes.Notarize w) it e = ap votes_reported (sym (found_is e))
  votes_of_two (votes.Finalize v) (votes.Finalize w) it e = ap votes_reported (sym (found_is e))
  votes_of_two (votes.Nullify v) (votes.Finalize w) it e = ap votes_reported (sym (found_is e))
  votes_of_two (votes.Notarize v) (votes.Nullify w) it e = absurd cc
  votes_of_two (votes.Notarize v) (votes.Finalize w) it e = absurd cc
  votes_of_two (votes.Nullify v) (votes.Notarize w) it e = absurd cc
  votes_of_two (votes.Nullify v) (votes.Nullify w) it e = absurd cc
  votes_of_two (votes.Finalize v) (votes.Notarize w) it e = absurd cc
  votes_of_two (votes.Finalize v) (votes.Nullify w) it e = absurd cc

module _ {G D : Type 0} (g : Format G) (d : Format D) (of_g : IsExact g) (of_d : IsExact d) where
  abbrev V : Format (Vote G D)
  V = vote_format g d

  abbrev Answer : Type 0
  Answer = Activity G D × List ℕ

  -- what is found in the bytes is what was encoded
  abbrev WasEncoded : List ℕ → Answer → Type 0
  WasEncoded bytes y = (activity_format g d).IsValue y.0
      × (bytes ≡ (activity_format g d).encoding y.0 ++ y.1)

  one_was : (bytes : List ℕ) (v : Vote G D) (rest : List ℕ)
      → V.IsValue v × (bytes ≡ V.encoding v ++ rest) → (y : Answer)
      → found (activity_of v, rest) ≡ Ok y → WasEncoded (1 ∷ bytes) y
  one_was bytes v rest t y same =
      subst (WasEncoded (1 ∷ bytes)) (found_is same)
      (rw (votes_of_one v) ((t.0, tt), ap (λ bs. 1 ∷ bs) t.1))

  two_were : (bytes : List ℕ) (v w : Vote G D) (middle rest : List ℕ) (it : Activity G D)
      → evidence_of v w ≡ Ok it → V.IsValue v × (bytes ≡ V.encoding v ++ middle)
      → V.IsValue w × (middle ≡ V.encoding w ++ rest) → (y : Answer) → found (it, rest) ≡ Ok y
      → WasEncoded (2 ∷ bytes) y
  two_were bytes v w middle rest it e t u y same =
      let joined = sym (append_assoc (V.encoding v) (V.encoding w) rest) in
      let parts = t.1 ∙ ap (λ m. V.encoding v ++ m) u.1 ∙ joined in
      subst (WasEncoded (2 ∷ bytes)) (found_is same)
      (rw (votes_of_two v w it e) ((t.0, u.0), ap (λ bs. 2 ∷ bs) parts))

  activity_found : (bytes : List ℕ) (x : Activity G D) (rest : List ℕ) → AreBytes bytes
      → activity_at g d bytes ≡ Ok (x, rest) → WasEncoded bytes (x, rest)
  activity_found [] x rest are e = absurd cc
  activity_found (zero ∷ bytes) x rest are e = absurd cc
  activity_found (suc zero ∷ bytes) x rest are e =
      let a = bind_ok (V.decoding bytes) (λ v. Ok (activity_of v.0, v.1)) (x, rest) e in
      let t = (vote_is_exact g d of_g of_d).found bytes a.0.0 a.0.1 (λ i. are (suc i)) a.1 in
      one_was bytes a.0.0 a.0.1 t (x, rest) a.2
  activity_found (suc (suc zero) ∷ bytes) x rest are e =
      let a = bind_ok (V.decoding bytes)
      (λ v. V.decoding v.1 >>= λ w. evidence_of v.0 w.0 >>= λ it. Ok (it, w.1)) (x, rest) e in
      let b = bind_ok (V.decoding a.0.1) (λ w. evidence_of a.0.0 w.0 >>= λ it. Ok (it, w.1))
      (x, rest) a.2 in
      let c = bind_ok (evidence_of a.0.0 b.0.0) (λ it. Ok (it, b.0.1)) (x, rest) b.2 in
      let exact = vote_is_exact g d of_g of_d in
      let t = exact.found bytes a.0.0 a.0.1 (λ i. are (suc i)) a.1 in
      let u = exact.found a.0.1 b.0.0 b.0.1
      (AreBytes-rest bytes (V.encoding a.0.0) a.0.1 (λ i. are (suc i)) t.1) b.1 in
      two_were bytes a.0.0 b.0.0 a.0.1 b.0.1 c.0 c.1 t u (x, rest) c.2
  activity_found (suc (suc (suc b)) ∷ bytes) x rest are e = absurd cc

  one_again : (v : Vote G D) (rest : List ℕ) → V.IsValue v
      → activity_at g d ((1 ∷ V.encoding v) ++ rest) ≡ Ok (activity_of v, rest)
  one_again v rest value = rw ((vote_is_exact g d of_g of_d).again v rest value) refl

  two_again : (v w : Vote G D) (it : Activity G D) (rest : List ℕ) → evidence_of v w ≡ Ok it
      → V.IsValue v → V.IsValue w
      → activity_at g d ((2 ∷ V.encoding v ++ V.encoding w) ++ rest) ≡ Ok (it, rest)
  two_again v w it rest e value other =
      let exact = vote_is_exact g d of_g of_d in
      ap (λ bs. activity_at g d (2 ∷ bs)) (append_assoc (V.encoding v) (V.encoding w) rest)
      ∙ rw (exact.again v (V.encoding w ++ rest) value, exact.again w rest other, e) refl

  activity_again : (x : Activity G D) (rest : List ℕ) → (activity_format g d).IsValue x
      → activity_at g d ((activity_format g d).encoding x ++ rest) ≡ Ok (x, rest)
  activity_again (activities.Notarize v) rest value = one_again (votes.Notarize v) rest value.0
  activity_again (activities.Nullify v) rest value = one_again (votes.Nullify v) rest value.0
  activity_again (activities.Finalize v) rest value = one_again (votes.Finalize v) rest value.0
  activity_again (activities.ConflictingNotarize v w) rest value =
      two_again (votes.Notarize v) (votes.Notarize w) _ rest refl value.0 value.1
  activity_again (activities.ConflictingFinalize v w) rest value =
      two_again (votes.Finalize v) (votes.Finalize w) _ rest refl value.0 value.1
  activity_again (activities.NullifyFinalize v w) rest value =
      two_again (votes.Nullify v) (votes.Finalize w) _ rest refl value.0 value.1

  pub activity_is_exact : IsExact (activity_format g d)
  activity_is_exact = record { found = activity_found; again = activity_again }

pub versioned_is_exact : {A : Type 0} (f : Format A) → IsExact f → IsExact (versioned f)
versioned_is_exact {A} f exact = record { found = found; again = exact.again }
  where
    found : (bytes : List ℕ) (x : A) (rest : List ℕ) → AreBytes bytes
        → versioned_at f bytes ≡ Ok (x, rest) → f.IsValue x × (bytes ≡ 1 ∷ f.encoding x ++ rest)
    found [] x rest are e = absurd cc
    found (zero ∷ bytes) x rest are e = absurd cc
    found (suc zero ∷ bytes) x rest are e =
        let t = exact.found bytes x rest (λ i. are (suc i)) e in
        (t.0, ap (λ bs. 1 ∷ bs) t.1)
    found (suc (suc b) ∷ bytes) x rest are e = absurd cc

pub signing_is_exact : {D : Type 0} (d : Format D) → IsExact d → IsExact (signing_format d)
signing_is_exact d exact =
    pair_is_exact bytes_format (subject_format d) bytes_is_exact (subject_is_exact d exact)

-- What is signed for one namespace and subject is signed for no other.
abbrev pub IsSignedOnce : {D : Type 0} → Format D → Type 0
IsSignedOnce {D} d = (namespace other : List ℕ) (x y : Subject D)
    → (signing_format d).IsValue (namespace, x) → (signing_format d).IsValue (other, y)
    → (signing_format d).encoding (namespace, x) ≡ (signing_format d).encoding (other, y)
    → (namespace ≡ other) × (x ≡ y)

pub signed_once : {D : Type 0} (d : Format D) → IsExact d → IsSignedOnce d
signed_once {D} d exact namespace other x y one two same =
    let both : (namespace, x) ≡ (other, y) =
    (exact_is_prefix_free (signing_format d) (signing_is_exact d exact) (namespace, x) (other, y)
    [] [] one two (ap (λ bs. bs ++ []) same)).0 in
    (ap (λ (p : List ℕ × Subject D). p.0) both, ap (λ (p : List ℕ × Subject D). p.1) both)
