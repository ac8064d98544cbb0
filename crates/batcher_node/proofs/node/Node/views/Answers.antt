use Rattle.batcher_node.proofs.Words.{◌∙◌, ◌==◌, ap, list_any}
use Rattle.batcher_node.proofs.Listing.{listed}
use Rattle.batcher_node.proofs.node.Node.views.Goals as goal

pub returns-clause-each : goal.returns-clause-each
returns-clause-each g c = λ view.
    ap (list_any (λ v. v == view)) c.keys-keys.ensures.rest
    ∙ rw (← c.self.view_is) (listed c.self.inside.rounds.slots.entries view)
