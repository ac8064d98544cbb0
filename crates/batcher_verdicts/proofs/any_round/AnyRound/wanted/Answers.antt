use Rattle.batcher_verdicts.proofs.Words.{sym}
use Rattle.batcher_verdicts.proofs.any_round.AnyRound.wanted.Goals as goal

pub returns-in-Batchable-clause-subject : goal.returns-in-Batchable-clause-subject
returns-in-Batchable-clause-subject g c =
    rw (sym c.self.view_is, c.in-Batchable.is, sym c.judged.view_is) c.wanted.ensures.subject

pub returns-in-Batchable-clause-asked : goal.returns-in-Batchable-clause-asked
returns-in-Batchable-clause-asked g c =
    rw (sym c.self.view_is, c.in-Batchable.is, sym c.judged.view_is) c.wanted.ensures.asked

pub returns-in-Batchable-clause-verified : goal.returns-in-Batchable-clause-verified
returns-in-Batchable-clause-verified g c =
    rw (sym c.self.view_is, c.in-Batchable.is, sym c.judged.view_is) c.wanted.ensures.verified

pub returns-in-OneByOne-clause-subject : goal.returns-in-OneByOne-clause-subject
returns-in-OneByOne-clause-subject g c =
    rw (sym c.self.view_is, c.in-OneByOne.is, sym c.judged-in-OneByOne.view_is) c.wanted-in-OneByOne.ensures.subject

pub returns-in-OneByOne-clause-asked : goal.returns-in-OneByOne-clause-asked
returns-in-OneByOne-clause-asked g c =
    rw (sym c.self.view_is, c.in-OneByOne.is, sym c.judged-in-OneByOne.view_is) c.wanted-in-OneByOne.ensures.asked

pub returns-in-OneByOne-clause-verified : goal.returns-in-OneByOne-clause-verified
returns-in-OneByOne-clause-verified g c =
    rw (sym c.self.view_is, c.in-OneByOne.is, sym c.judged-in-OneByOne.view_is) c.wanted-in-OneByOne.ensures.verified
