use Rattle.batcher_voter.proofs.Words.{◌≡◌, ◌<◌, ℕ, true, learned_at}
use Rattle.batcher_voter.proofs.knowledge.Knowledge.gap.Given as goal

abbrev pub invariant-loop-between : goal.invariant-loop-between
invariant-loop-between g l =
    (view : ℕ) → l.parent < view → view < l.between → (learned_at l.self view).nullified ≡ true
