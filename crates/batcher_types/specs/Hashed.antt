-- What the test schemes hash: keys, subjects, signatures and seals.
use Rattle.std.specs.Prelude.{◌≡◌, ◌<◌, ℕ, Bool, true, nat_eq, nat_lt, ◌&&◌, List, ◌∷◌, ◌++◌}
use Rattle.std.proofs.Common.{arith}
use Rattle.std.proofs.lemmas.Bool.Decides.{nat_tests}
use Rattle.std.specs.Int.{w32, w64, to_be_bytes}
use Rattle.sha2.specs.Sha256.{sha256}
use Rattle.batcher_types.specs.declared.positions.Round.{Round}
use Rattle.batcher_types.specs.declared.messages.Sha256Digest.{Sha256Digest}
use Rattle.batcher_types.specs.declared.messages.Proposal.{Proposal}
use Rattle.batcher_types.specs.declared.messages.Attestation.{Attestation}
use Rattle.batcher_types.specs.declared.messages.Subject.{Subject}
use Rattle.batcher_types.specs.declared.messages.Subject.TheVariants.{Notarize, Nullify, Finalize}
use lib.Pointwise.{pointwise}

unfoldable pub round_bytes : Round → List ℕ
round_bytes r = to_be_bytes w64 r.epoch.0 ++ to_be_bytes w64 r.view.0

unfoldable pub proposal_bytes : Proposal Sha256Digest → List ℕ
proposal_bytes p = round_bytes p.round ++ to_be_bytes w64 p.parent.0 ++ p.payload.0

-- the kind byte and the context
unfoldable pub hashed_subject : Subject Sha256Digest → List ℕ
hashed_subject (Notarize p) = 0 ∷ proposal_bytes p
hashed_subject (Nullify r) = 1 ∷ round_bytes r
hashed_subject (Finalize p) = 2 ∷ proposal_bytes p

-- the key of an index, of a participant or not
unfoldable pub key_of : List ℕ → ℕ → List ℕ
key_of root i = sha256 (root ++ to_be_bytes w32 i)

-- the signature of an index over a subject
unfoldable pub hashed_signature : List ℕ → ℕ → Subject Sha256Digest → List ℕ
hashed_signature root i subject = sha256 (key_of root i ++ hashed_subject subject)

-- the master key has the index that no participant has
unfoldable pub seal_of : List ℕ → Subject Sha256Digest → List ℕ
seal_of root subject = sha256 (key_of root 0xffffffff ++ hashed_subject subject)

-- whether two texts of bytes are the same
abbrev pub same_bytes : List ℕ → List ℕ → Bool
same_bytes = pointwise nat_eq

-- whether the attestation is of the subject, among n participants
abbrev pub is_signed : ℕ → List ℕ → Subject Sha256Digest → Attestation (List ℕ) → Bool
is_signed n root subject a =
    nat_lt a.signer.0 n && same_bytes a.signature (hashed_signature root a.signer.0 subject)

-- who signs is below n
pub is_signed-range : (n : ℕ) (root : List ℕ) (subject : Subject Sha256Digest)
    (a : Attestation (List ℕ)) → is_signed n root subject a ≡ true → a.signer.0 < n
is_signed-range n root subject a h = grind (arith, nat_tests)
