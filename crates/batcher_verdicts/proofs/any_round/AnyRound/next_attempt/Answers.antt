use Rattle.batcher_verdicts.proofs.Words.{sym}
use Rattle.batcher_verdicts.proofs.any_round.AnyRound.next_attempt.Goals as goal

pub returns-in-Batchable-clause-subject : goal.returns-in-Batchable-clause-subject
returns-in-Batchable-clause-subject g c =
    rw (sym c.self.view_is, c.in-Batchable.is, sym c.judged.view_is) c.next_attempt.ensures.subject

pub returns-in-Batchable-clause-pending : goal.returns-in-Batchable-clause-pending
returns-in-Batchable-clause-pending g c =
    rw (sym c.self.view_is, c.in-Batchable.is, sym c.judged.view_is) c.next_attempt.ensures.pending

pub returns-in-Batchable-clause-verified : goal.returns-in-Batchable-clause-verified
returns-in-Batchable-clause-verified g c =
    rw (sym c.self.view_is, c.in-Batchable.is, sym c.judged.view_is) c.next_attempt.ensures.verified

pub returns-in-OneByOne-clause-subject : goal.returns-in-OneByOne-clause-subject
returns-in-OneByOne-clause-subject g c =
    rw (sym c.self.view_is, c.in-OneByOne.is, sym c.judged-in-OneByOne.view_is) c.next_attempt-in-OneByOne.ensures.subject

pub returns-in-OneByOne-clause-pending : goal.returns-in-OneByOne-clause-pending
returns-in-OneByOne-clause-pending g c =
    rw (sym c.self.view_is, c.in-OneByOne.is, sym c.judged-in-OneByOne.view_is) c.next_attempt-in-OneByOne.ensures.pending

pub returns-in-OneByOne-clause-verified : goal.returns-in-OneByOne-clause-verified
returns-in-OneByOne-clause-verified g c =
    rw (sym c.self.view_is, c.in-OneByOne.is, sym c.judged-in-OneByOne.view_is) c.next_attempt-in-OneByOne.ensures.verified
