use Rattle.batcher_ffi.proofs.Words.{◌≡◌, length, signers_differ}
use Rattle.batcher_ffi.proofs.certificates.signers_differ.Given as goal

abbrev pub invariant-loop-rest : goal.invariant-loop-rest
invariant-loop-rest l = signers_differ l.all ≡ signers_differ l.rest

abbrev pub decreases-loop-rest : goal.decreases-loop-rest
decreases-loop-rest l = length l.rest
