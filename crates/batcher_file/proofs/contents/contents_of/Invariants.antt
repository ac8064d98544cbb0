use Rattle.batcher_file.proofs.Words.{length}
use Rattle.batcher_file.proofs.SoFar.{IsSoFar}
use Rattle.batcher_file.proofs.contents.contents_of.Given as goal

abbrev pub invariant-loop-next : goal.invariant-loop-next
invariant-loop-next l = IsSoFar l.file l.first l.next l.bytes.items l.rest

abbrev pub decreases-loop-next : goal.decreases-loop-next
decreases-loop-next l = length l.rest
