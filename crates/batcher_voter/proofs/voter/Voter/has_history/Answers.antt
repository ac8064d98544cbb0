use Rattle.batcher_voter.proofs.Words.{subst, node_config, HasHistory}
use Rattle.batcher_voter.proofs.voter.Voter.has_history.Goals as goal

pub returns : goal.returns
returns g c =
    subst (λ v. HasHistory (node_config g.S.Scheme.meaning g.S.PublicKey.Ord.cmp g.S.Signature.PartialEq.eq g.D.PartialEq.eq v.node) v.node)
    c.self.view_is c.promises.ensures.some.0
