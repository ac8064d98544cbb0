use Rattle.batcher_evidence.proofs.TwoRuns.{are_accountable}
use Rattle.batcher_evidence.proofs.theorems.rounds_are_accountable.Goals as goal

pub returns : goal.returns
returns g c = λ scheme.
    are_accountable (g.S.Scheme.meaning scheme) (g.met.S.Scheme.lawful scheme)
    g.S.Accountable.shown (g.met.S.Accountable.shows scheme)
    g.S.PublicKey.Ord.cmp g.S.Signature.PartialEq.eq g.D.PartialEq.eq
