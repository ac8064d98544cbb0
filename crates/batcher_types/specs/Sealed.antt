-- The certificates that are one hash.
use Rattle.std.specs.Prelude.{◌&&◌, ◌+◌, ℕ, Bool, nat_le, List, length, filter, Option, Some, None}
use Rattle.std.specs.Prelude.{if◌then◌else◌}
use Rattle.rand_core.specs.Stream.{Stream}
use Rattle.batcher_types.specs.Quorum.{quorum_of}
use Rattle.batcher_types.specs.Hashed.{is_signed, seal_of, same_bytes}
use Rattle.batcher_types.specs.declared.messages.Attestation.{Attestation}
use Rattle.batcher_types.specs.declared.messages.Subject.{Subject}
use Rattle.batcher_types.specs.declared.messages.Sha256Digest.{Sha256Digest}

module _ (n : ℕ) (root : List ℕ) (subject : Subject Sha256Digest) where
  -- whether it is the subject's seal, where there are participants
  abbrev pub is_sealed : List ℕ → Bool
  is_sealed certificate = nat_le 1 n && same_bytes certificate (seal_of root subject)

  -- the seal where a quorum attests, and the stream, which is left as it was
  abbrev pub sealed_at_once : List (Attestation (List ℕ)) → List (Attestation (List ℕ)) → Stream
      → Option (List ℕ) × Stream
  sealed_at_once pending verified stream = (
    if nat_le (quorum_of n) (length verified + length
        (filter (is_signed n root subject) pending)) then Some (seal_of root subject) else None,
    stream,
  )
