use Rattle.batcher_journal.proofs.Words.{take, IsFree}
use Rattle.batcher_journal.proofs.indexed.find_among.Given as goal

abbrev pub invariant-loop-vote : goal.invariant-loop-vote
invariant-loop-vote g l = IsFree g.D.PartialEq.eq (take l.vote-index l.votes) l.subject
