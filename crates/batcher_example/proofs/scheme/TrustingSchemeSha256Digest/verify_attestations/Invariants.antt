use Rattle.batcher_example.proofs.Words.{◌≡◌, ◌&&◌, nat_lt, length, filter, take, failing, signers}
use Rattle.batcher_example.proofs.scheme.TrustingSchemeSha256Digest.verify_attestations.Given as goal

abbrev pub invariant-loop-attestation : goal.invariant-loop-attestation
invariant-loop-attestation g l = record {
  valid : l.verified.items ≡ filter
      (λ a. nat_lt a.signer.0 (length l.self.participants) && a.signature)
      (take l.attestation-index l.pending);
  failed : l.invalid.items ≡ signers
      (failing (λ a. nat_lt a.signer.0 (length l.self.participants) && a.signature)
      (take l.attestation-index l.pending));
}
