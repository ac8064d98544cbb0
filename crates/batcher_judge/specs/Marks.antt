-- Signatures of the program: a signature attests whatever it is of where it begins as the keys do.
use Rattle.std.specs.Prelude.{◌==◌, ℕ, Bool, List, slice_index}
use Rattle.std.specs.List.{list_all}
use Rattle.batcher.specs.messages.Attestation.{Attestation}
use Rattle.batcher.specs.messages.Sha256Digest.{Sha256Digest}
use Rattle.batcher.specs.messages.Subject.{Subject}
use Rattle.batcher_bytes.specs.declared.signature.Keys.{Keys}
use Rattle.batcher_bytes.specs.declared.signature.Signature.{Signature}

abbrev pub is_marked : Keys → Subject Sha256Digest → Attestation Signature → Bool
is_marked keys subject a = slice_index a.signature.bytes 0 == slice_index keys.0 0

-- some pass as a whole where each would attest
abbrev pub are_marked : Keys → Subject Sha256Digest → List (Attestation Signature) → Bool
are_marked keys subject list = list_all (is_marked keys subject) list

-- a certificate is of marks alone
abbrev pub is_certificate : Keys → Subject Sha256Digest → List ℕ → Bool
is_certificate keys subject bytes = list_all (λ b. b == slice_index keys.0 0) bytes
