use Rattle.batcher_verdicts.proofs.Words.{rules}
use Rattle.batcher_verdicts.proofs.Recording.{none_true}
use Rattle.batcher_verdicts.proofs.recorded.KindVerdicts.forget.Goals as goal

pub returns-clause-truths : goal.returns-clause-truths
returns-clause-truths g c = λ attests. none_true attests _ _ _ (search rules) (search rules)
