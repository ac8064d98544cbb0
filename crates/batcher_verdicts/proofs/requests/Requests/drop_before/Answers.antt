use Rattle.batcher_verdicts.proofs.Words.{rules}
use Rattle.batcher_verdicts.proofs.Requesting.{fewer_true}
use Rattle.batcher_verdicts.proofs.requests.Requests.drop_before.Goals as goal

pub returns-clause-truths : goal.returns-clause-truths
returns-clause-truths g c = λ attests before.
    fewer_true attests c.args.self.now (record { all = c.drop_before.new.all.entries; next = c.self.inside.next; first = c.args.view }) c.args.view
    (record { kept = search rules; gone = search rules; next = search rules; first = search rules }) before
