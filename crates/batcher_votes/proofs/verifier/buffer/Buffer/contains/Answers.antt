use Rattle.batcher_votes.proofs.Words.{sym, ap, ◌∙◌, ◌==◌, list_any, subjects_of_runs}
use Rattle.batcher_votes.proofs.VerifierLemmas.Runs.{any-from}
use Rattle.batcher_votes.proofs.verifier.buffer.Buffer.contains.Goals as goal

pub returns : goal.returns
returns g c =
    rw (← c.self.view_is)
    (c.has_signer.ensures ∙ (ap (list_any (λ a. a.signer.0 == c.args.signer.0)) c.as_slice.ensures.value
    ∙ sym (any-from c.args.signer.0 (subjects_of_runs c.self.inside.runs.items) c.self.inside.attestations.items c.self.invariant)))
