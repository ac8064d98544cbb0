use Rattle.batcher_votes.proofs.Words.{◌++◌, ◌-◌, ◌∙◌, ap, subjects_of_runs}
use Rattle.batcher_votes.proofs.VerifierLemmas.Runs.{as_many, subjects_of_runs-append}
use Rattle.batcher_votes.proofs.verifier.buffer.push_run.Goals as goal

pub returns-clause-subjects : goal.returns-clause-subjects
returns-clause-subjects g c =
    let runs = c.args.runs.now.items in
    let subject = c.args.subject in
    ap subjects_of_runs c.push_reserved.ensures.items ∙ (subjects_of_runs-append runs (record { subject = subject; more = c.args.count - 1 })
    ∙ ap (λ xs. subjects_of_runs runs ++ xs) (as_many subject c.args.count c.requires.some))
