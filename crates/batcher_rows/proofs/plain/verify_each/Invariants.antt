use Rattle.batcher_rows.proofs.Words.{◌≡◌, filter, take, failing, signers, is_plainly_signed}
use Rattle.batcher_rows.proofs.plain.verify_each.Given as goal

abbrev pub invariant-loop-attestation : goal.invariant-loop-attestation
invariant-loop-attestation g l = record {
  valid : l.verified.items ≡ filter (is_plainly_signed l.n l.fn.subject)
      (take l.attestation-index l.pending);
  failed : l.invalid.items ≡ signers
      (failing (is_plainly_signed l.n l.fn.subject) (take l.attestation-index l.pending));
}
