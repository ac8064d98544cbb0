use Rattle.batcher_journal.proofs.Lives.{never_contradicts}
use Rattle.batcher_journal.proofs.journal.handed_out_never_contradict.Goals as goal

pub returns : goal.returns
returns g c = never_contradicts g.D.PartialEq.eq g.met.D.Eq.laws
