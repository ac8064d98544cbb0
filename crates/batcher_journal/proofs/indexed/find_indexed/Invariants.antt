use Rattle.batcher_journal.proofs.Indexing.{IsSearched}
use Rattle.batcher_journal.proofs.indexed.find_indexed.Given as goal

abbrev pub invariant-loop-i : goal.invariant-loop-i
invariant-loop-i g l = IsSearched g.D.PartialEq.eq l.votes l.index l.subject l.i
