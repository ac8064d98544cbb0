use Rattle.batcher_journal.proofs.Words.{length, ◌-◌, IsIndex}
use Rattle.batcher_journal.proofs.indexed.index_all.Given as goal

abbrev pub invariant-loop-index : goal.invariant-loop-index
invariant-loop-index g l = IsIndex l.votes l.index.items

abbrev pub decreases-loop-index : goal.decreases-loop-index
decreases-loop-index g l = length l.votes - length l.index.items
