use Rattle.batcher_votes.proofs.Words.{Stream, Certificate, Batch, verified_tried, TakesIn, attempt_result, judged, TriesKind}
use Rattle.batcher_votes.proofs.VerifierLemmas.Construction.{tries_by}
use Rattle.batcher_votes.proofs.VerifierLemmas.Results.{if_ok}
use Rattle.batcher_votes.proofs.verifier.Verifier.construct_by_verdicts.Goals as goal

pub returns-clause-tries : goal.returns-clause-tries
returns-clause-tries g c =
    let old = c.args.self.now in
    let new = c.take_in.new.self in
    let m = judged (g.S.Scheme.meaning old.scheme) in
    let outcome = attempt_result (verified_tried old.holds c.args.kind) c.in_ok-tried.tried.batch c.in_ok-tried.tried.joining.items in
    let by : (batch : Batch (Certificate g.row.S-Certificate.Denot g.row.D.Denot))
    → TakesIn old.number old.holds c.args.kind c.args.subject outcome batch new.holds
    → (stream : Stream) → TriesKind m old.number old.quorum old.holds c.args.kind stream batch stream new.holds
    = λ batch takes stream. tries_by m old.number old.quorum old.holds new.holds c.args.kind c.args.subject stream stream batch outcome takes
    (c.in_ok-tried.ensures.attempt stream) in
    if_ok c.take_in.result _ _ by c.take_in.ensures.takes
