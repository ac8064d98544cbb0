use Rattle.batcher_voter.proofs.Words.{OnErr, subst, node_config, VoteMayNeed}
use Rattle.batcher_voter.proofs.voter.Voter.call_vote.Goals as goal

pub returns-clause-needed : goal.returns-clause-needed
returns-clause-needed g c =
    let config = node_config g.S.Scheme.meaning g.S.PublicKey.Ord.cmp g.S.Signature.PartialEq.eq g.D.PartialEq.eq in
    subst (λ voter. OnErr c.receive_vote.result (VoteMayNeed (config voter.node) voter.node c.args.peer c.args.vote))
    c.self.view_is c.receive_vote.ensures.needed
