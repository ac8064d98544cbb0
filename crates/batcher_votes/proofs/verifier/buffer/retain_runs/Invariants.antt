use Rattle.batcher_votes.proofs.Words.{FiltersInPlace, may_be_eligible}
use Rattle.batcher_votes.proofs.verifier.buffer.retain_runs.Given as goal

abbrev pub invariant-loop-i : goal.invariant-loop-i
invariant-loop-i g l = FiltersInPlace (λ run. may_be_eligible g.D.PartialEq.eq l.proposal run.subject) l.initial.runs l.runs l.kept l.i
