use Rattle.batcher_node.proofs.DueLemmas.{same_times}
use Rattle.batcher_node.proofs.due.Due.add.Goals as goal

pub returns-clause-times : goal.returns-clause-times
returns-clause-times c = λ other. same_times _ _ c.in-Ok.ensures.permutation other
