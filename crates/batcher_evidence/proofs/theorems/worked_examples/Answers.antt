use Rattle.batcher_evidence.proofs.Worked.{computed}
use Rattle.batcher_evidence.proofs.theorems.worked_examples.Goals as goal

pub returns : goal.returns
returns g = computed
