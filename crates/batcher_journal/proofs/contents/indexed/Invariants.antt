use Rattle.batcher_journal.proofs.Words.{take, ◌≡◌, [], MayBeWrittenBehind}
use Rattle.batcher_journal.proofs.contents.indexed.Given as goal

abbrev pub invariant-loop-vote : goal.invariant-loop-vote
invariant-loop-vote g l =
    (l.all ≡ take l.vote-index l.votes)
    × MayBeWrittenBehind g.D.PartialEq.eq l.floor [] (take l.vote-index l.votes)
