use Rattle.batcher_node.proofs.Counting.{few_rounds}
use Rattle.batcher_node.proofs.node.Node.rounds_kept.Goals as goal

pub returns-clause-bound : goal.returns-clause-bound
returns-clause-bound g c =
    rw (c.len.ensures.len, ← c.self.view_is)
    (few_rounds _ _ _ _ _ c.len.ensures.ordered c.self.invariant.0.tended)
