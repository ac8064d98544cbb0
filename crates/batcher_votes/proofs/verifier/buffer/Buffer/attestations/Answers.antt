use Rattle.batcher_votes.proofs.Words.{sym, ◌∙◌, subjects_of_runs}
use Rattle.batcher_votes.proofs.VerifierLemmas.Runs.{attestations_from}
use Rattle.batcher_votes.proofs.verifier.buffer.Buffer.attestations.Goals as goal

pub returns : goal.returns
returns g c =
    rw (← c.self.view_is)
    (c.as_slice.ensures.value ∙ sym (attestations_from (subjects_of_runs c.self.inside.runs.items) c.self.inside.attestations.items c.self.invariant))
