use Rattle.batcher_evidence.proofs.Words.{◌∙◌}
use Rattle.batcher_evidence.proofs.Convicting.{convicted_proves, convicted_where_is}
use Rattle.batcher_evidence.proofs.reports.convicted_with.Goals as goal

pub returns-clause-proof : goal.returns-clause-proof
returns-clause-proof g c =
    let m = g.S.Scheme.meaning c.args.scheme.now in
    convicted_proves m g.D.PartialEq.eq c.args.report.now c.convicted_if.result
    (c.convicted_if.ensures
    ∙ convicted_where_is m g.D.PartialEq.eq c.args.report.now c.args.first_attests c.args.second_attests c.requires)
