use Rattle.batcher_votes.proofs.VerifierLemmas.Runs.{Moved}
use Rattle.batcher_votes.proofs.verifier.buffer.retain_attestations.Given as goal

abbrev pub invariant-loop-run : goal.invariant-loop-run
invariant-loop-run g l = Moved g.D.PartialEq.eq l.proposal l.runs l.initial.attestations l.attestations l.kept l.start l.run-index
