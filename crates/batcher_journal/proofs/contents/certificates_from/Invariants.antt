use Rattle.batcher_journal.proofs.Words.{◌≡◌, take, certified_from}
use Rattle.batcher_journal.proofs.contents.certificates_from.Given as goal

abbrev pub invariant-loop-it : goal.invariant-loop-it
invariant-loop-it l = l.left.items ≡ certified_from l.floor (take l.it-index l.certificates)
