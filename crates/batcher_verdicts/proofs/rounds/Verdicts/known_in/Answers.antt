use Rattle.batcher_verdicts.proofs.Viewing.{known_there, is_known}
use Rattle.batcher_verdicts.proofs.rounds.Verdicts.known_in.Goals as goal

pub returns-clause-known : goal.returns-clause-known
returns-clause-known g c =
    known_there _ c.args.node.now.rounds c.args.self.now c.in_ok-view.view.0 c.in_ok-round.round.now
    c.known_next.result c.in_ok-view.ensures.next c.in_ok-round.ensures.round c.known_next.ensures.subject
    c.known_next.ensures.known

pub returns-clause-complete : goal.returns-clause-complete
returns-clause-complete g c = λ view subject next there.
    is_known _ c.args.node.now.rounds c.args.self.now c.in_ok-view.view.0 c.in_ok-round.round.now
    c.known_next.result c.in_ok-view.ensures.next c.in_ok-round.ensures.round c.known_next.ensures.subject
    view subject next there
