-- What a certificate is made of that a round makes.
use Rattle.std.specs.Prelude.{◌≡◌, ◌&&◌, ◌||◌, ℕ, Bool, true, nat_lt, List}
use Rattle.std.specs.List.{list_all}
use Rattle.batcher_types.specs.Attestations.{IsQuorum}
use Rattle.batcher_types.specs.declared.messages.Attestation.{Attestation}
use Rattle.batcher_types.specs.declared.messages.Sha256Digest.{Sha256Digest}
use Rattle.batcher_types.specs.declared.messages.Subject.{Subject}
use Rattle.batcher_bytes.specs.declared.signature.Keys.{Keys}
use Rattle.batcher_bytes.specs.declared.signature.Signature.{Signature}
use Rattle.batcher_bytes.specs.declared.truth.Truth.{Ghosts}

-- attestations of one subject, by participants with these keys
pub record Listing : Type 0 where
  pub keys : Keys
  pub participants : ℕ
  pub subject : Subject Sha256Digest
  pub attestations : List (Attestation Signature)

-- a certificate from elsewhere, among participants with these keys
pub record Received : Type 0 where
  pub keys : Keys
  pub subject : Subject Sha256Digest
  pub bytes : List ℕ
  pub certifies : Bool

abbrev pub listing_of : Keys → ℕ → Subject Sha256Digest → List (Attestation Signature) → Listing
listing_of keys n subject all =
    record { keys = keys; participants = n; subject = subject; attestations = all }

module _ {T : Type 0} (truth : Ghosts T) where
  -- a participant's, that attests
  abbrev pub attests : Keys → ℕ → Subject Sha256Digest → Attestation Signature → Bool
  attests keys n subject a = nat_lt a.signer.0 n && truth.attests keys subject a

  -- A quorum of different participants, whose attestations attest each, or pass as a whole.
  pub record Passed (listing : Listing) : Type 0 where
    pub quorum : IsQuorum listing.participants listing.attestations
    pub passed : (list_all (attests listing.keys listing.participants listing.subject)
        listing.attestations
        || truth.passes listing.keys listing.subject listing.attestations) ≡ true
