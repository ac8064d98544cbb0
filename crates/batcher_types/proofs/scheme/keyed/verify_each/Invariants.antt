use Rattle.batcher_types.proofs.Words.{◌≡◌, filter, take, is_signed, failing, signers}
use Rattle.batcher_types.proofs.scheme.keyed.verify_each.Given as goal

abbrev pub invariant-loop-attestation : goal.invariant-loop-attestation
invariant-loop-attestation l = record {
  valid : l.verified.items ≡ filter (is_signed l.n l.root l.subject)
      (take l.attestation-index l.pending);
  failed : l.invalid.items ≡ signers
      (failing (is_signed l.n l.root l.subject) (take l.attestation-index l.pending));
}
