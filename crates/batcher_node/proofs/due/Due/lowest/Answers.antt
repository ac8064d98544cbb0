use Rattle.batcher_node.proofs.DueLemmas.{none_below}
use Rattle.batcher_node.proofs.due.Due.lowest.Goals as goal

pub returns-in-Some-clause-lowest : goal.returns-in-Some-clause-lowest
returns-in-Some-clause-lowest c = λ lower below.
    none_below _ c.in-Some.view.now (c.in-Some.ensures.greatest c.args.self.now.ordered) lower below
