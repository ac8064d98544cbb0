use Rattle.batcher_votes.proofs.Words.{Certificate, Batch, verified_tried, TakesIn, attempt_result, TriesKind}
use Rattle.batcher_votes.proofs.VerifierLemmas.Construction.{tries_by}
use Rattle.batcher_votes.proofs.VerifierLemmas.Results.{if_ok}
use Rattle.batcher_votes.proofs.verifier.Verifier.construct.Goals as goal

pub returns-clause-tries : goal.returns-clause-tries
returns-clause-tries g c =
    let old = c.args.self.now in
    let new = c.take_in.new.self in
    let m = g.S.Scheme.meaning old.scheme in
    let before = g.R.Rng.stream c.args.rng.now in
    let after = g.R.Rng.stream c.attempt_at.new.rng in
    let outcome = attempt_result (verified_tried old.holds c.args.kind) c.in_ok-tried.tried.batch c.in_ok-tried.tried.joining.items in
    let by : (batch : Batch (Certificate g.row.S-Certificate.Denot g.row.D.Denot))
    → TakesIn old.number old.holds c.args.kind c.args.subject outcome batch new.holds
    → TriesKind m old.number old.quorum old.holds c.args.kind before batch after new.holds
    = λ batch takes. tries_by m old.number old.quorum old.holds new.holds c.args.kind c.args.subject before after batch outcome takes
    c.in_ok-tried.ensures.attempt in
    if_ok c.take_in.result _ _ by c.take_in.ensures.takes
