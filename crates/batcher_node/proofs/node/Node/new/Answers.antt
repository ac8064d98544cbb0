use Rattle.batcher_node.proofs.Words.{rules}
use Rattle.batcher_node.proofs.Causing.{starts}
use Rattle.batcher_node.proofs.node.Node.new.Goals as goal

pub invariant_of-result : goal.invariant_of-result
invariant_of-result g c = (
  record {
    tended = search rules;
    each = search rules;
    history = starts _ _ c.new.ensures.empty c.in_ok-blocked.ensures.none;
  },
  record { listed = λ view. rw c.new.ensures.empty (c.new-2.ensures view); room = search rules },
)
