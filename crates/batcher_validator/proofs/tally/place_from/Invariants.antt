use Rattle.batcher_validator.proofs.Words.{◌≡◌, ◌<◌, ◌≤◌, ℕ, Some, true, slice_get, subject_of, Vote, is_earlier}
use Rattle.batcher_validator.proofs.tally.place_from.Given as goal

abbrev pub invariant-loop-i : goal.invariant-loop-i
invariant-loop-i g l =
    (k : ℕ) (vote : Vote _ _) → l.fn.first ≤ k → k < l.i → slice_get l.fn.votes k ≡ Some vote
    → is_earlier l.fn.view (subject_of vote) ≡ true
