use Rattle.batcher_bench.proofs.Words.{◌≡◌, NUMBER}
use Rattle.batcher_bench.proofs.play.tell_steps.Given as goal

abbrev pub invariant-loop-step : goal.invariant-loop-step
invariant-loop-step g l = l.round.number ≡ NUMBER
