-- The certificates that list their attestations.
use Rattle.std.specs.Prelude.{◌&&◌, ℕ, Bool, nat_le, List, length, ◌++◌, Option, Some, None}
use Rattle.std.specs.Prelude.{if◌then◌else◌}
use Rattle.std.specs.List.{list_all}
use Rattle.rand_core.specs.Stream.{Stream}
use Rattle.batcher_types.specs.Quorum.{quorum_of}
use Rattle.batcher_types.specs.Attestations.{index_of_signer}
use Rattle.batcher_types.specs.Ascending.{is_ascending, ordered_by}
use Rattle.batcher_types.specs.Hashed.{is_signed}
use Rattle.batcher_types.specs.declared.messages.Attestation.{Attestation}
use Rattle.batcher_types.specs.declared.messages.Subject.{Subject}
use Rattle.batcher_types.specs.declared.messages.Sha256Digest.{Sha256Digest}

module _ (n : ℕ) (root : List ℕ) (subject : Subject Sha256Digest) where
  -- whether it lists a quorum of n participants in ascending order, each with its signature
  abbrev pub is_listed : List (Attestation (List ℕ)) → Bool
  is_listed certificate =
      nat_le 1 n && (nat_le (quorum_of n) (length certificate)
      && (is_ascending index_of_signer certificate
      && list_all (is_signed n root subject) certificate))

  -- the certificate where all pending ones attest, and the stream, which is left as it was
  abbrev pub listed_at_once : List (Attestation (List ℕ)) → List (Attestation (List ℕ)) → Stream
      → Option (List (Attestation (List ℕ))) × Stream
  listed_at_once pending verified stream = (
    if list_all (is_signed n root subject) pending then Some
        (ordered_by index_of_signer (verified ++ pending)) else None,
    stream,
  )
