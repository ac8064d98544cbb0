use Rattle.batcher_validator.proofs.Words.{IfErr, subst, WhyNotEntered}
use Rattle.batcher_validator.proofs.validator.Validator.call_enter.Goals as goal

pub returns-clause-why : goal.returns-clause-why
returns-clause-why g c =
    subst (λ validator. IfErr c.enter.result (WhyNotEntered validator.voter.node c.args.view.0 c.args.leader))
    c.self.view_is c.enter.ensures.why
