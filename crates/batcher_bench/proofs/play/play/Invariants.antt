use Rattle.batcher_bench.proofs.Words.{◌≡◌}
use Rattle.batcher_bench.proofs.play.play.Given as goal

abbrev pub invariant-loop-step : goal.invariant-loop-step
invariant-loop-step g l = l.round.number ≡ l.fn.round.number
