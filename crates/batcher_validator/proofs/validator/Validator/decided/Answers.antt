use Rattle.batcher_validator.proofs.Words.{arith, subst, sym, AreDecided, conduct_in}
use Rattle.batcher_validator.proofs.validator.Validator.decided.Goals as goal

pub returns-then-first-noted-clause-decides : goal.returns-then-first-noted-clause-decides
returns-then-first-noted-clause-decides g c = λ past earlier is view from before.
    subst (λ d. AreDecided (conduct_in earlier past) c.args.self.now.voter.node.epoch d) (sym c.noted-noted.ensures)
    is.decides view (omega (arith, from)) before

pub returns-clause-decides : goal.returns-clause-decides
returns-clause-decides g c = λ past earlier is view from before.
    absurd (omega (arith, from, before))
