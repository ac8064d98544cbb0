use Rattle.batcher_evidence.proofs.Convicting.{convicted_if_ok}
use Rattle.batcher_evidence.proofs.reports.convicted.Goals as goal

pub returns-clause-proof : goal.returns-clause-proof
returns-clause-proof g c =
    convicted_if_ok (g.S.Scheme.meaning c.args.scheme.now) g.D.PartialEq.eq c.args.report.now
    c.convicted_exactly.result c.convicted_exactly.ensures.exact
