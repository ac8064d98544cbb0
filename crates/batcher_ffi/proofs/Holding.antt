-- What a validator holds whose disk is verified.
use Rattle.batcher_ffi.proofs.Words.{Attestation, Bool, CValidator, IfSome, Keys, List, None, Option, Sha256Digest, Signature, Some, [], ℕ, ◌&&◌}
use Rattle.batcher_ffi.proofs.Words.{◌++◌, ◌∙◌, ◌∷◌, ◌≡◌, and_parts, ap, content_of, false, is_attested, length, list_all, listing_in, map, refl}
use Rattle.batcher_ffi.proofs.Words.{subject_certified, subst, sym, true, validator_keys, validator_participants}
use Rattle.std.proofs.lemmas.List.Folds.{list_all-append, list_all-map}
use Rattle.std.specs.Prelude.{Err, IfOk, IsSomeAnd, Ok, Result, option_and_then}
use Rattle.batcher_bytes.specs.Encodings.{ProofView}
use Rattle.batcher_ffi.specs.Certificates.{certifies_by}
use Rattle.batcher_ffi.specs.Disks.{AreAllGood, Claim, HoldsVerified, are_good, claim_of, claims_on, is_true_claim, listed_behind, shown_by}
use Rattle.batcher_ffi.specs.Validators.{earlier_in, kept_in}
use Rattle.batcher_types.specs.Lists.{is_some_and}
use Rattle.batcher_types.specs.declared.messages.Certificate.{Certificate}

and_true : (a b : Bool) → a ≡ true → b ≡ true → (a && b) ≡ true
and_true true b first second = second
and_true false b first second = absurd (cc)

-- Where all claims are true, those before are, and each certificate certifies.
all_true : (keys : Keys) (n : ℕ) (claims all : List Claim)
    (cs : List (Certificate ProofView Sha256Digest)) → listed_behind n claims cs ≡ Some all
    → list_all (is_true_claim keys) all ≡ true
    → (list_all (is_true_claim keys) claims ≡ true)
    × (list_all (λ c. certifies_by keys n (subject_certified c) (content_of c).bytes) cs ≡ true)
all_true keys n claims all [] e h =
    let same : claims ≡ all = cc in (ap (list_all (is_true_claim keys)) same ∙ h, refl)
all_true keys n claims all (c ∷ cs) e h =
    of_listing
    (λ l is. all_true keys n (claims ++ claims_on (subject_certified c) l) all cs is h)
    (listing_in n (content_of c).bytes) refl e
  where
    of_listing :
        ((l : List (Attestation Signature))
        → listed_behind n (claims ++ claims_on (subject_certified c) l) cs ≡ Some all
        → (list_all (is_true_claim keys) (claims ++ claims_on (subject_certified c) l) ≡ true)
        × (list_all (λ d. certifies_by keys n (subject_certified d) (content_of d).bytes) cs
        ≡ true))
        → (found : Option (List (Attestation Signature)))
        → listing_in n (content_of c).bytes ≡ found
        → option_and_then (λ l. listed_behind n (claims ++ claims_on (subject_certified c) l) cs)
        found ≡ Some all
        → (list_all (is_true_claim keys) claims ≡ true)
        × (list_all (λ d. certifies_by keys n (subject_certified d) (content_of d).bytes) (c ∷ cs)
        ≡ true)
    of_listing rest None is e = absurd (cc)
    of_listing rest (Some l) is e =
        let subject = subject_certified c in
        let true_claim = is_true_claim keys in
        let below = rest l e in
        let parts = and_parts (list_all true_claim claims) (list_all true_claim (claims_on subject l))
        (sym (list_all-append true_claim claims (claims_on subject l)) ∙ below.0) in
        let listed : list_all (is_attested keys subject) l ≡ true =
        sym (list_all-map true_claim (λ a. (subject, a)) l) ∙ parts.1 in
        let certifies : certifies_by keys n subject (content_of c).bytes ≡ true =
        ap (λ o. is_some_and o (λ xs. list_all (is_attested keys subject) xs)) is ∙ listed in
        (parts.0, and_true _ _ certifies below.1)

pub holds_verified : (l : CValidator) (verdicts : List Bool)
    → IfSome (shown_by l) (λ claims. length verdicts ≡ length claims
    → are_good verdicts ≡ list_all (is_true_claim (validator_keys l)) claims)
    → AreAllGood l verdicts → HoldsVerified l
holds_verified l verdicts right good = of_shown (shown_by l) refl right good
  where
    of_shown : (shown : Option (List Claim)) → shown_by l ≡ shown
        → IfSome shown (λ claims. length verdicts ≡ length claims
        → are_good verdicts ≡ list_all (is_true_claim (validator_keys l)) claims)
        → IsSomeAnd shown (λ claims. (length verdicts ≡ length claims) × (are_good verdicts ≡ true))
        → HoldsVerified l
    of_shown None e right good = absurd good
    of_shown (Some all) e right good =
        let both = all_true (validator_keys l) (validator_participants l) (map claim_of (earlier_in l)) all
        (kept_in l) e (sym (right good.0) ∙ good.1) in
        record {
          votes = sym (list_all-map (is_true_claim (validator_keys l)) claim_of (earlier_in l)) ∙ both.0;
          certificates = both.1;
        }

pub verified_holds : (l : CValidator) (verdicts : List Bool) (made : Result CValidator ℕ)
    → IfSome (shown_by l) (λ claims. length verdicts ≡ length claims
    → are_good verdicts ≡ list_all (is_true_claim (validator_keys l)) claims)
    → IfOk made (λ it. (it ≡ l) × AreAllGood l verdicts) → IfOk made HoldsVerified
verified_holds l verdicts (Ok it) right is =
    subst HoldsVerified (sym is.0) (holds_verified l verdicts right is.1)
verified_holds l verdicts (Err code) right is = tt
