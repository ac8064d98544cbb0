-- Lists of attestations: what a check of each finds, and when they are a quorum.
use Rattle.std.specs.Prelude.{◌≡◌, ◌≤◌, ℕ, Bool, not, List, length, map, filter}
use Rattle.batcher_types.specs.Lists.{EachOnce}
use Rattle.batcher_types.specs.Quorum.{quorum_of}
use Rattle.batcher_types.specs.declared.positions.Participant.{Participant}
use Rattle.batcher_types.specs.declared.messages.Attestation.{Attestation}
use Rattle.batcher_types.specs.declared.scheme.Verification.{Verification}

module _ {G : Type 0} where
  abbrev pub index_of_signer : Attestation G → ℕ
  index_of_signer a = a.signer.0

  -- the signers, in order
  abbrev pub signers : List (Attestation G) → List Participant
  signers xs = map (λ a. a.signer) xs

  -- the attestations that fail the test, in order
  abbrev pub failing : (Attestation G → Bool) → List (Attestation G) → List (Attestation G)
  failing test xs = filter (λ a. not (test a)) xs

  -- In order, those that pass the test, and the signers of those that fail it.
  pub record Sorts (test : Attestation G → Bool) (pending : List (Attestation G))
      (found : Verification G) : Type 0 where
    pub valid : found.verified.items ≡ filter test pending
    pub failed : found.invalid.items ≡ signers (failing test pending)

  -- Enough attestations for a quorum of n participants, no signer twice.
  pub record IsQuorum (n : ℕ) (xs : List (Attestation G)) : Type 0 where
    pub enough : quorum_of n ≤ length xs
    pub once : EachOnce index_of_signer xs
