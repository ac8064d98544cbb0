use Rattle.batcher_voter.proofs.Words.{IfErr, subst, WhyNotEntered}
use Rattle.batcher_voter.proofs.voter.Voter.call_enter.Goals as goal

pub returns-clause-why : goal.returns-clause-why
returns-clause-why g c =
    subst (λ voter. IfErr c.enter.result (WhyNotEntered voter.node c.args.view.0 c.args.leader))
    c.self.view_is c.enter.ensures.why
