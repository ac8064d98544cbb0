use Rattle.batcher_verdicts.proofs.Words.{refl}
use Rattle.batcher_verdicts.proofs.Plain.{on_err}
use Rattle.batcher_verdicts.proofs.rounds.Verdicts.record.Goals as goal

pub returns-in-Some-clause-needed : goal.returns-in-Some-clause-needed
returns-in-Some-clause-needed g c =
    on_err c.record_of.result (λ needs. record {
      next = c.in-Some.ensures.next refl;
      needs = rw c.in-Some.ensures.pending at needs;
    }) c.record_of.ensures.needed
