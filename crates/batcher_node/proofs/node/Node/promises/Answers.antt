use Rattle.batcher_node.proofs.Causing.{each_gave_cause, some_of_each}
use Rattle.batcher_node.proofs.node.Node.promises.Goals as goal

pub returns-clause-each : goal.returns-clause-each
returns-clause-each g c =
    let some = c.self.invariant.0.tended.some in
    let kept = c.promises.ensures in
    rw (← c.self.view_is)
    (λ past represents. record {
      promised = kept.promised _ some past represents;
      blocked_gave_cause =
          each_gave_cause _ past _ c.self.invariant.0.each represents
          (kept.promised _ some past represents).blocked_for_cause;
      complete_at_rest = kept.complete _ some past represents;
    })

pub returns-clause-some : goal.returns-clause-some
returns-clause-some g c =
    let each = rw (← c.self.view_is) at (returns-clause-each g c) in
    rw (← c.self.view_is) (some_of_each _ _ _ c.self.invariant.0.history each)
