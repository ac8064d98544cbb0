use Rattle.batcher_voter.proofs.Words.{◌≡◌, ◌≤◌, ◌<◌, ℕ, true, learned_at}
use Rattle.batcher_voter.proofs.knowledge.Knowledge.nullified_until.Given as goal

abbrev pub invariant-loop-view : goal.invariant-loop-view
invariant-loop-view g l =
    (view : ℕ) → l.first ≤ view → view < l.view → (learned_at l.self view).nullified ≡ true
