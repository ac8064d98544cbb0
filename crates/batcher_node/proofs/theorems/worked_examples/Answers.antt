use Rattle.batcher_node.proofs.SendingWorked.{computed}
use Rattle.batcher_node.proofs.theorems.worked_examples.Goals as goal

pub returns : goal.returns
returns g = computed
