-- What is true of what a caller verifies. What is on the right is never seen: outside of this
-- module nothing unfolds these definitions, so each proof holds of any other in their place.
use Rattle.std.specs.Prelude.{ℕ, Bool, true, List}
use Rattle.batcher_types.specs.declared.messages.Attestation.{Attestation}
use Rattle.batcher_types.specs.declared.messages.Sha256Digest.{Sha256Digest}
use Rattle.batcher_types.specs.declared.messages.Subject.{Subject}
use Rattle.batcher_bytes.specs.declared.signature.Keys.{Keys}
use Rattle.batcher_bytes.specs.declared.signature.Signature.{Signature}

-- whether the attestation of a participant with these keys attests the subject
pub is_attested : Keys → Subject Sha256Digest → Attestation Signature → Bool
is_attested keys subject attestation = true

-- whether these attestations, a quorum, pass as a whole
pub is_passed : Keys → Subject Sha256Digest → List (Attestation Signature) → Bool
is_passed keys subject attestations = true

-- whether the bytes are a certificate of the subject
pub is_certified : Keys → Subject Sha256Digest → List ℕ → Bool
is_certified keys subject bytes = true
