use Rattle.batcher_verdicts.proofs.Words.{rules}
use Rattle.batcher_verdicts.proofs.Requesting.{complete_by}
use Rattle.batcher_verdicts.proofs.request.Request.judge_by.Goals as goal

pub returns-clause-complete : goal.returns-clause-complete
returns-clause-complete g c = λ _. (
  c.self.inside.subject,
  complete_by _ _ c.args.verdicts.now _ c.judge.ensures.judged (search rules) (search rules) (search rules),
)
