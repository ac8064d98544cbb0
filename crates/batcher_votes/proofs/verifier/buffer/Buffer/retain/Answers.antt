use Rattle.batcher_votes.proofs.Words.{◌≡◌, length, vec_len, filter, arith, retained_attestations}
use Rattle.batcher_votes.proofs.VerifierLemmas.Runs.{fitting_votes, length-retained_attestations, eligible_run, written_back}
use Rattle.batcher_votes.proofs.verifier.buffer.Buffer.retain.Goals as goal

pub invariant_of-self : goal.invariant_of-self
invariant_of-self g c =
    let same = g.D.PartialEq.eq in
    let p = c.args.proposal.now in
    let runs = c.self.inside.runs in
    let attestations = c.self.inside.attestations in
    let moved = rw (c.as_slice.ensures.value, c.as_mut_slice.ensures.value) at c.retain_attestations-kept.ensures.votes in
    let kept = rw (c.as_mut_slice-2.ensures.value) at c.retain_runs-runs.ensures.runs in
    let left : length c.retain_runs-runs.new.runs ≡ length runs.items = omega arith in
    let right : length c.retain_attestations-kept.new.attestations ≡ length attestations.items = omega arith in
    let runs_are : c.truncate-2.new.self.items ≡ filter (eligible_run same p) runs.items
    = rw (c.truncate-2.ensures.items, written_back runs.items c.retain_runs-runs.new.runs (vec_len runs) left (runs.ok.0)) kept in
    let attestations_are : c.truncate.new.self.items ≡ retained_attestations same p runs.items attestations.items
    = rw (
      c.truncate.ensures.items,
      written_back attestations.items c.retain_attestations-kept.new.attestations (vec_len attestations) right
          (attestations.ok.0),
    ) moved in
    rw (runs_are, attestations_are) (length-retained_attestations same p runs.items attestations.items c.self.invariant)

pub returns-clause-votes : goal.returns-clause-votes
returns-clause-votes g c =
    let same = g.D.PartialEq.eq in
    let p = c.args.proposal.now in
    let runs = c.self.inside.runs in
    let attestations = c.self.inside.attestations in
    let moved = rw (c.as_slice.ensures.value, c.as_mut_slice.ensures.value) at c.retain_attestations-kept.ensures.votes in
    let kept = rw (c.as_mut_slice-2.ensures.value) at c.retain_runs-runs.ensures.runs in
    let left : length c.retain_runs-runs.new.runs ≡ length runs.items = omega arith in
    let right : length c.retain_attestations-kept.new.attestations ≡ length attestations.items = omega arith in
    let runs_are : c.truncate-2.new.self.items ≡ filter (eligible_run same p) runs.items
    = rw (c.truncate-2.ensures.items, written_back runs.items c.retain_runs-runs.new.runs (vec_len runs) left (runs.ok.0)) kept in
    let attestations_are : c.truncate.new.self.items ≡ retained_attestations same p runs.items attestations.items
    = rw (
      c.truncate.ensures.items,
      written_back attestations.items c.retain_attestations-kept.new.attestations (vec_len attestations) right
          (attestations.ok.0),
    ) moved in
    rw (← c.self.view_is, runs_are, attestations_are) (fitting_votes same p runs.items attestations.items c.self.invariant)
