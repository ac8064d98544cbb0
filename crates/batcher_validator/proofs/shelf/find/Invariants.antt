use Rattle.batcher_validator.proofs.Words.{◌≡◌, ◌≤◌, ◌+◌, ℕ, Some, length, slice_get, Certificate, kind_and_round}
use Rattle.batcher_validator.proofs.shelf.find.Given as goal

abbrev pub invariant-loop-i : goal.invariant-loop-i
invariant-loop-i g l =
    (k : ℕ) → length l.fn.certificates ≤ k + l.i → (c : Certificate _ _)
    → slice_get l.fn.certificates k ≡ Some c → kind_and_round c ≡ (l.fn.kind, l.fn.round) → ⊥
