use Rattle.batcher_node.proofs.Words.{ap}
use Rattle.batcher_node.proofs.node.Node.blocked.Goals as goal

pub returns-clause-cause : goal.returns-clause-cause
returns-clause-cause g c = λ past represents.
    rw (c.as_slice.ensures.value, ap (λ n. n.blocked) c.self.view_is)
    (c.promises.ensures.each past represents).blocked_gave_cause
