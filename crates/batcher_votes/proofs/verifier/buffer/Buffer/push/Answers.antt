use Rattle.batcher_votes.proofs.Words.{◌≡◌, ◌++◌, ◌∷◌, [], rules, attestation_of, subjects_of_runs}
use Rattle.batcher_votes.proofs.VerifierLemmas.Runs.{push-from}
use Rattle.batcher_votes.proofs.verifier.buffer.Buffer.push.Goals as goal

pub returns-clause-votes : goal.returns-clause-votes
returns-clause-votes g c =
    let left = c.push_subject.ensures.subjects in
    let right : c.push_reserved.new.self.items ≡ c.self.inside.attestations.items ++ attestation_of c.args.vote.now ∷ [] = search rules in
    rw (← c.self.view_is, left, right)
    (push-from (subjects_of_runs c.self.inside.runs.items) c.self.inside.attestations.items c.args.vote.now c.self.invariant)
