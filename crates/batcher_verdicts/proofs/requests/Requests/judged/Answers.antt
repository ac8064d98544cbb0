use Rattle.batcher_verdicts.proofs.Words.{◌∙◌, ap, sym}
use Rattle.batcher_verdicts.proofs.Requesting.{judged_true, true_at}
use Rattle.batcher_verdicts.specs.Requests.{request_at}
use Rattle.batcher_verdicts.proofs.requests.Requests.judged.Goals as goal

pub returns-in-Some-clause-truths : goal.returns-in-Some-clause-truths
returns-in-Some-clause-truths g c = λ attests before.
    let there = ap (λ s. request_at s c.key_in.result) (sym c.self.view_is) ∙ sym c.in-Some.ensures.value in
    judged_true attests c.in-Some.request.now c.judged.result c.judged.ensures.some
    (true_at attests _ c.args.self.now c.key_in.result there before)
