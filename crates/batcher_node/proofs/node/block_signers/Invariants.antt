use Rattle.batcher_node.proofs.Words.{◌≡◌, ◌<◌, ◌==◌, ℕ, cond, Some, None, length, take, list_any, option_or, ForSignature, cause_at}
use Rattle.batcher_node.proofs.node.block_signers.Given as goal

abbrev pub invariant-loop-signer : goal.invariant-loop-signer
invariant-loop-signer l = record {
  each : length l.blocked.items ≡ length l.fn.blocked.items;
  blocks : (i : ℕ) → i < length l.fn.blocked.items → cause_at l.blocked.items i
      ≡ option_or (cause_at l.fn.blocked.items i)
      (cond (list_any (λ p. p.0 == i) (take l.signer-index l.signers)) (Some ForSignature) None);
}
