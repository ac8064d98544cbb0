use Rattle.batcher_verdicts.proofs.Words.{rules, Some}
use Rattle.batcher_verdicts.proofs.Requesting.{true_by_judging}
use Rattle.batcher_verdicts.proofs.request.Request.judge.Goals as goal

pub returns-clause-truths : goal.returns-clause-truths
returns-clause-truths g c = λ attests before on.
    true_by_judging attests (Some c.self.inside.subject) c.self.inside.list.items c.self.inside.verdicts.items c.args.verdicts.now
    c.self.inside.behind c.self.invariant.0 _ (search rules) (search rules) (search rules)
