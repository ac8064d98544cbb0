use Rattle.batcher_votes.proofs.Words.{sym, ap, ◌∙◌, same_subject-refl, one_subject_in, subjects_of_runs}
use Rattle.batcher_votes.proofs.VerifierLemmas.Runs.{one-from, one-subjects_of_runs}
use Rattle.batcher_votes.proofs.verifier.buffer.Buffer.is_about_one.Goals as goal

pub returns : goal.returns
returns g c =
    let same = g.D.PartialEq.eq in
    let runs = c.self.inside.runs.items in
    rw (← c.self.view_is)
    (c.about_one.ensures ∙ (ap (one_subject_in same) c.as_slice.ensures.value
    ∙ (one-subjects_of_runs same (same_subject-refl same g.met.D.Eq.laws.refl) runs
    ∙ sym (one-from same (subjects_of_runs runs) c.self.inside.attestations.items c.self.invariant))))
