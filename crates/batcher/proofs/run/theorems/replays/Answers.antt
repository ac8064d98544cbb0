use Rattle.batcher.proofs.Words.{equal_runs_go_alike}
use Rattle.batcher.proofs.run.theorems.replays.Goals as goal

pub returns : goal.returns
returns g c = λ x. equal_runs_go_alike x
