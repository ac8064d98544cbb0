-- The scheme of the benchmark: what its signatures are, and what its certificates say.
use Rattle.std.specs.Prelude.{ℕ, Bool, ◌+◌, ◌*◌, ◌%◌, ◌^◌, ◌&&◌, ◌==◌, bit_xor, nat_le, nat_lt}
use Rattle.std.specs.Prelude.{List, length, fold, Option, Some, None, if◌then◌else◌}
use Rattle.std.specs.List.{list_all}
use Rattle.rand_core.specs.Stream.{Stream}
use Rattle.batcher.specs.Quorum.{quorum_of}
use Rattle.batcher.specs.positions.Round.{Round}
use Rattle.batcher.specs.messages.Sha256Digest.{Sha256Digest}
use Rattle.batcher.specs.messages.Proposal.{Proposal}
use Rattle.batcher.specs.messages.Attestation.{Attestation}
use Rattle.batcher.specs.messages.Subject.{Subject}
use Rattle.batcher.specs.messages.Subject.TheVariants.{Notarize, Nullify, Finalize}
use Rattle.batcher_rows.specs.declared.plain.Tally.{Tally}
use Rattle.batcher_rows.specs.declared.plain.Padded.{Padded}

-- a number mixed into a word
unfoldable pub mixed : ℕ → ℕ → ℕ
mixed word number = (bit_xor word number * 0x100000001b3) % 2 ^ 64

abbrev pub round_word : ℕ → Round → ℕ
round_word word round = mixed (mixed word round.epoch.0) round.view.0

abbrev pub proposal_word : ℕ → Proposal Sha256Digest → ℕ
proposal_word word proposal =
    fold mixed (mixed (round_word word proposal.round) proposal.parent.0) proposal.payload.0

-- the kind and the context, as a word
abbrev pub subject_word : Subject Sha256Digest → ℕ
subject_word (Notarize proposal) = proposal_word 1 proposal
subject_word (Nullify round) = round_word 2 round
subject_word (Finalize proposal) = proposal_word 3 proposal

-- the first word of the signature of an index over a subject
abbrev pub signature_word : Subject Sha256Digest → ℕ → ℕ
signature_word subject signer = mixed (subject_word subject) signer

-- whether the attestation is one of n participants' over the subject with the word
abbrev pub bears : {P : Type 0} → ℕ → ℕ → Attestation (Padded P) → Bool
bears n word a = nat_lt a.signer.0 n && (a.signature.word == mixed word a.signer.0)

-- whether the attestation is of the subject, among n participants
abbrev pub is_plainly_signed : {P : Type 0} → ℕ → Subject Sha256Digest → Attestation (Padded P)
    → Bool
is_plainly_signed n subject a = bears n (subject_word subject) a

-- the sum of the first words of the signatures and a number
abbrev pub sum_from : {P : Type 0} → ℕ → List (Attestation (Padded P)) → ℕ
sum_from sum attestations = fold (λ s a. (s + a.signature.word) % 2 ^ 64) sum attestations

-- what a certificate of two lists says
abbrev pub tally_of : {P : Type 0} → List (Attestation (Padded P)) → List (Attestation (Padded P))
    → Tally
tally_of earlier later =
    record { count = length earlier + length later; sum = sum_from (sum_from 0 earlier) later }

-- whether it counts a quorum of n participants
abbrev pub counts_a_quorum : ℕ → Tally → Bool
counts_a_quorum n tally = nat_le 1 n && nat_le (quorum_of n) tally.count

-- the certificate where all pending ones attest, and the stream, which is left as it was
abbrev pub tallied_at_once : {P : Type 0} → ℕ → Subject Sha256Digest → List (Attestation (Padded P))
    → List (Attestation (Padded P)) → Stream → Option Tally × Stream
tallied_at_once n subject pending verified stream = (
  if list_all (is_plainly_signed n subject) pending then Some (tally_of verified pending) else None,
  stream,
)
