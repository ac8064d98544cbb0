-- What an attempt at a certificate looks at.
use Rattle.std.specs.Prelude.{ℕ, List}
use Rattle.batcher_types.specs.declared.messages.Attestation.{Attestation}
use Rattle.batcher_types.specs.declared.messages.Kind.{Kind}
use Rattle.batcher_types.specs.Attempts.{checked}
use Rattle.batcher_votes.specs.RoundState.{of_kind, VerifierState}
use Rattle.batcher_votes.specs.VerifierSteps.{attestations_of}

module _ {G D : Type 0} where
  -- the pending attestations of a kind that an attempt looks at, with this quorum
  abbrev pub pending_tried : ℕ → VerifierState G D → Kind → List (Attestation G)
  pending_tried q held kind =
      checked q (attestations_of (of_kind held.verified kind))
      (attestations_of (of_kind held.pending kind))

  -- those of the kind that are known to attest
  abbrev pub verified_tried : VerifierState G D → Kind → List (Attestation G)
  verified_tried held kind = attestations_of (of_kind held.verified kind)
