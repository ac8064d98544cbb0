use Rattle.batcher_votes.proofs.Words.{◌≡◌, true, take, list_all, same_subject}
use Rattle.batcher_votes.proofs.verifier.buffer.all_same.Given as goal

abbrev pub invariant-loop-run : goal.invariant-loop-run
invariant-loop-run g l = list_all (λ run. same_subject g.D.PartialEq.eq l.subject run.subject) (take l.run-index l.runs) ≡ true
