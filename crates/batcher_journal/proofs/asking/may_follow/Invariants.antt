use Rattle.batcher_journal.proofs.Words.{take, MayBeWrittenBehind}
use Rattle.batcher_journal.proofs.asking.may_follow.Given as goal

abbrev pub invariant-loop-i : goal.invariant-loop-i
invariant-loop-i g l = MayBeWrittenBehind g.D.PartialEq.eq l.floor l.old (take l.i l.votes)
