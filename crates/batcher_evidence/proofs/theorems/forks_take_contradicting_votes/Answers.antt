use Rattle.batcher_evidence.proofs.Forking.{take_contradicting}
use Rattle.batcher_evidence.proofs.theorems.forks_take_contradicting_votes.Goals as goal

pub returns : goal.returns
returns g c = λ scheme.
    take_contradicting (g.S.Scheme.meaning scheme) g.S.PublicKey.Ord.cmp g.S.Signature.PartialEq.eq
    g.D.PartialEq.eq g.met.D.Digest.identical
