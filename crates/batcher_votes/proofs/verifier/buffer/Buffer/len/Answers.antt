use Rattle.batcher_votes.proofs.Words.{arith, subjects_of_runs}
use Rattle.batcher_votes.proofs.VerifierLemmas.Runs.{length-from}
use Rattle.batcher_votes.proofs.verifier.buffer.Buffer.len.Goals as goal

pub returns : goal.returns
returns g c =
    let same = length-from (subjects_of_runs c.self.inside.runs.items) c.self.inside.attestations.items c.self.invariant in
    rw (← c.self.view_is) (omega (arith, c.self.inside.attestations.ok.0))
