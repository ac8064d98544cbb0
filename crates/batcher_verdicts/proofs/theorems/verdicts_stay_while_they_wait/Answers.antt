use Rattle.batcher_verdicts.proofs.Waiting.{verdicts_stay}
use Rattle.batcher_verdicts.proofs.theorems.verdicts_stay_while_they_wait.Goals as goal

pub returns : goal.returns
returns g c = λ round. verdicts_stay _
