use Rattle.batcher_rows.proofs.Words.{◌≡◌, range_with_len}
use Rattle.batcher_rows.proofs.plan.signers.Given as goal

abbrev pub invariant-loop-signer : goal.invariant-loop-signer
invariant-loop-signer l = l.signers.items ≡ range_with_len 0 l.signer
