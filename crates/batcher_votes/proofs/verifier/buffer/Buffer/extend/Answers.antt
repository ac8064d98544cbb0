use Rattle.batcher_votes.proofs.Words.{◌≡◌, ◌++◌, length, replicate, rules, subjects_of_runs}
use Rattle.batcher_votes.proofs.VerifierLemmas.Runs.{append-from, repeat-from, run_joins}
use Rattle.batcher_votes.proofs.verifier.buffer.Buffer.extend.Goals as goal

pub invariant_of-self : goal.invariant_of-self
invariant_of-self g c =
    let attestations = c.self.inside.attestations.items in
    let more = c.args.attestations.now in
    let left = c.push_run.ensures.subjects in
    let right : c.extend_from_slice.new.self.items ≡ attestations ++ more = search rules in
    rw (left, right) (run_joins (subjects_of_runs c.self.inside.runs.items) attestations more c.args.subject c.self.invariant)

pub returns : goal.returns
returns g c =
    let runs = c.self.inside.runs.items in
    let attestations = c.self.inside.attestations.items in
    let more = c.args.attestations.now in
    let left = c.push_run.ensures.subjects in
    let right : c.extend_from_slice.new.self.items ≡ attestations ++ more = search rules in
    rw (
      ← c.self.view_is,
      left,
      right,
      append-from (subjects_of_runs runs) (replicate (length more) c.args.subject) attestations more c.self.invariant,
      repeat-from
          c.args.subject more,
    )
