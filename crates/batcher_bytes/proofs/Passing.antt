-- A quorum of attestations that attest each, or pass as a whole, has passed.
use Rattle.batcher_bytes.proofs.Words.{◌≡◌, ◌||◌, ℕ, Bool, true, false, List, refl, AllPass, list_all, list_all-from_AllPass, IsQuorum, Attestation}
use Rattle.batcher_bytes.proofs.Words.{Sha256Digest, Subject, Passed, attests, listing_of, Keys, Signature, Ghosts}

or_true : (b : Bool) → (b || true) ≡ true
or_true true = refl
or_true false = refl

module _ {T : Type 0} (truth : Ghosts T) (keys : Keys) (subject : Subject Sha256Digest) (n : ℕ)
    (all : List (Attestation Signature)) (quorum : IsQuorum n all) where
  pub each_passed : AllPass (attests truth keys n subject) all
      → Passed truth (listing_of keys n subject all)
  each_passed pass =
      record {
        quorum = quorum;
        passed = rw (list_all-from_AllPass (attests truth keys n subject) all pass) refl;
      }

  pub together_passed : truth.passes keys subject all ≡ true
      → Passed truth (listing_of keys n subject all)
  together_passed passes =
      record {
        quorum = quorum;
        passed = rw passes (or_true (list_all (attests truth keys n subject) all));
      }

-- the same of values that are equal to these
pub same_passed : {T : Type 0} (truth : Ghosts T) (keys : Keys) (subject : Subject Sha256Digest)
    (n count : ℕ) (all items : List (Attestation Signature)) → count ≡ n → items ≡ all
    → Passed truth (listing_of keys n subject all)
    → Passed truth (listing_of keys count subject items)
same_passed truth keys subject n count all items count_is items_are passed =
    rw (count_is, items_are) passed
