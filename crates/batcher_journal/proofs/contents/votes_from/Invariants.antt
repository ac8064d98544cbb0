use Rattle.batcher_journal.proofs.Words.{◌≡◌, take, from_floor}
use Rattle.batcher_journal.proofs.contents.votes_from.Given as goal

abbrev pub invariant-loop-vote : goal.invariant-loop-vote
invariant-loop-vote g l = l.left.items ≡ from_floor l.floor (take l.vote-index l.votes)
