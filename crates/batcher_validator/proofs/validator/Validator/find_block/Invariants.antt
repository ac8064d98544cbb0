use Rattle.batcher_validator.proofs.Words.{◌≡◌, ◌<◌, ◌⊎◌, ℕ, None, Some, true, slice_get, cause_at}
use Rattle.batcher_validator.proofs.validator.Validator.find_block.Given as goal

abbrev pub invariant-loop-i : goal.invariant-loop-i
invariant-loop-i g l =
    (k : ℕ) → k < l.i
    → (cause_at l.fn.self.voter.node.blocked k ≡ None) ⊎ (slice_get l.fn.self.given.blocked k ≡ Some true)
