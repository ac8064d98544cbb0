use Rattle.batcher_node.proofs.Words.{rules}
use Rattle.batcher_node.proofs.Blocking.{now_blocked}
use Rattle.batcher_node.proofs.node.block.Goals as goal

pub returns-then-place-len-clause-blocks : goal.returns-then-place-len-clause-blocks
returns-then-place-len-clause-blocks c = λ i within.
    now_blocked c.args.blocked.now.items c.args.participant.0 i c.args.cause (search rules) (search rules)
