use Rattle.batcher_verdicts.proofs.any_round.AnyRound.new.Goals as goal
use Rattle.batcher_verdicts.proofs.any_round.AnyRound.new.Goals.{then-batchable+in_ok-scheme+in_ok-new, else-batchable+in_ok-scheme-2+in_ok-new-2}

pub returns-clause-represents : goal.returns-clause-represents
returns-clause-represents g c = elim c.if-batchable.branch [
  | then-batchable+in_ok-scheme+in_ok-new w ↦ rw w.either'-is w.in_ok-new.ensures.represents
  | else-batchable+in_ok-scheme-2+in_ok-new-2 w ↦ rw w.either'-is w.in_ok-new-2.ensures.represents
]
