use Rattle.batcher_evidence.proofs.Reporting.{reports_that_convict}
use Rattle.batcher_evidence.proofs.theorems.reports_convict.Goals as goal

pub returns : goal.returns
returns g c = λ scheme.
    reports_that_convict (g.S.Scheme.meaning scheme)
    g.S.PublicKey.Ord.cmp g.S.Signature.PartialEq.eq g.D.PartialEq.eq
