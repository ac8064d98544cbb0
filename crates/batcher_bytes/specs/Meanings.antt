-- What the scheme means, by what is true of attestations elsewhere.
use Rattle.std.specs.Prelude.{◌&&◌, ◌==◌, ◌++◌, ℕ, Bool, List, Option, Some, None, if◌then◌else◌}
use Rattle.std.specs.List.{list_all}
use Rattle.rand_core.specs.Stream.{Stream}
use Rattle.batcher_types.specs.Votes.{same_subject}
use Rattle.batcher_types.specs.declared.messages.Attestation.{Attestation}
use Rattle.batcher_types.specs.declared.messages.Sha256Digest.{Sha256Digest}
use Rattle.batcher_types.specs.declared.messages.Subject.{Subject}
use Rattle.batcher_bytes.specs.Keys.{same_keys, same_digest}
use Rattle.batcher_bytes.specs.Listings.{listing_of, attests}
use Rattle.batcher_bytes.specs.declared.certificates.Content.{Content}
use Rattle.batcher_bytes.specs.declared.certificates.Content.TheVariants.{Made, Received}
use Rattle.batcher_bytes.specs.declared.signature.Keys.{Keys}
use Rattle.batcher_bytes.specs.declared.signature.Signature.{Signature}
use Rattle.batcher_bytes.specs.declared.truth.Truth.{Ghosts}

module _ {T : Type 0} (keys : Keys) (n : ℕ) where
  -- What a round made certifies the subject that it was made for, among the participants that it
  -- was made by. What came from elsewhere does if it came for the subject, with a good verdict.
  abbrev pub certifies : Subject Sha256Digest → Content T → Bool
  certifies subject (Made listing) =
      (listing.participants == n)
      && (same_keys listing.keys keys && same_subject same_digest subject listing.subject)
  certifies subject (Received certificate) =
      certificate.certifies
      && (same_keys certificate.keys keys
      && same_subject same_digest subject certificate.subject)

  -- the attestations as a certificate
  abbrev pub made_of : Subject Sha256Digest → List (Attestation Signature) → Content T
  made_of subject all = Made (listing_of keys n subject all)

  -- the same where all pending ones attest, and the stream, which is left as it was
  abbrev pub made_at_once : Ghosts T → Subject Sha256Digest → List (Attestation Signature)
      → List (Attestation Signature) → Stream → Option (Content T) × Stream
  made_at_once truth subject pending verified stream = (
    if list_all (attests truth keys n subject) pending
        then Some (made_of subject (verified ++ pending)) else None,
    stream,
  )
