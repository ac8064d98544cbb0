-- What the bytes of a certificate are the list of, and when they certify.
use Rattle.std.specs.Prelude.{◌≡◌, ◌≢◌, ◌&&◌, ◌==◌, ℕ, Bool, false, true, not, List, [], ◌∷◌}
use Rattle.std.specs.Prelude.{length, nat_le, nat_lt, cond, Option, Some, None, Result, Ok, Err}
use Rattle.std.specs.Prelude.{IfSome}
use Rattle.std.specs.List.{list_all, list_any}
use Rattle.batcher_types.specs.Lists.{is_some_and}
use Rattle.batcher_types.specs.Quorum.{quorum_of}
use Rattle.batcher_types.specs.declared.messages.Attestation.{Attestation}
use Rattle.batcher_types.specs.declared.messages.Sha256Digest.{Sha256Digest}
use Rattle.batcher_types.specs.declared.messages.Subject.{Subject}
use Rattle.batcher_bytes.specs.Encodings.{signature_format}
use Rattle.batcher_bytes.specs.Format.{Format}
use Rattle.batcher_bytes.specs.Lists.{list_format}
use Rattle.batcher_bytes.specs.Messages.{attestation_format}
use Rattle.batcher_bytes.specs.declared.fault.DecodeFault.{DecodeFault}
use Rattle.batcher_bytes.specs.declared.signature.Keys.{Keys}
use Rattle.batcher_bytes.specs.declared.signature.Signature.{Signature}
use Rattle.batcher_ffi.specs.Truths.{is_attested}

-- no signer is there twice
abbrev pub signers_differ : List (Attestation Signature) → Bool
signers_differ [] = true
signers_differ (a ∷ all) =
    not (list_any (λ b. b.signer.0 == a.signer.0) all) && signers_differ all

-- those of a quorum of n participants, each once
abbrev pub is_quorum_among : ℕ → List (Attestation Signature) → Bool
is_quorum_among n all =
    nat_le (quorum_of n) (length all) && (nat_le (length all) n
    && (list_all (λ a. nat_lt a.signer.0 n) all && signers_differ all))

abbrev pub listing_format : Format (List (Attestation Signature))
listing_format = list_format (attestation_format signature_format)

-- what is read of bytes, where nothing follows it
abbrev pub listing_at : ℕ → Result (List (Attestation Signature) × List ℕ) DecodeFault
    → Option (List (Attestation Signature))
listing_at n (Ok (all, [])) = cond (is_quorum_among n all) (Some all) None
listing_at n (Ok (all, b ∷ rest)) = None
listing_at n (Err fault) = None

-- the attestations of a quorum of n participants that bytes are the list of, if they are one
abbrev pub listing_in : ℕ → List ℕ → Option (List (Attestation Signature))
listing_in n bytes = listing_at n (listing_format.decoding bytes)

-- whether bytes certify a subject, among n participants with these keys: each of those attests it
abbrev pub certifies_by : Keys → ℕ → Subject Sha256Digest → List ℕ → Bool
certifies_by keys n subject bytes =
    is_some_and (listing_in n bytes) (λ all. list_all (is_attested keys subject) all)

-- Verdicts on each of them, which are all yes just where each attests.
abbrev pub AreVerdictsOn : Keys → ℕ → Subject Sha256Digest → List ℕ → List Bool → Type 0
AreVerdictsOn keys n subject bytes verdicts =
    IfSome (listing_in n bytes) (λ all. length verdicts ≡ length all
    → list_all (λ b. b) verdicts ≡ list_all (is_attested keys subject) all)

-- whether bytes certify by verdicts, and none where there isn't one on each
abbrev pub JudgesListing : Option (List (Attestation Signature)) → List Bool → Option Bool → Type 0
JudgesListing None verdicts found = found ≡ Some false
JudgesListing (Some all) verdicts None = length verdicts ≢ length all
JudgesListing (Some all) verdicts (Some certifies) =
    (length verdicts ≡ length all) × (certifies ≡ list_all (λ b. b) verdicts)
