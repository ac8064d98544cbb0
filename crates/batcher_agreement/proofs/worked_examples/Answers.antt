use Rattle.batcher_agreement.proofs.Worked.{computed}
use Rattle.batcher_agreement.proofs.worked_examples.Goals as goal

pub returns : goal.returns
returns c = computed
