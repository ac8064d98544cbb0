use Rattle.batcher_voter.proofs.Words.{subst, node_config, VoterStays}
use Rattle.batcher_voter.proofs.Waiting.{same_voting}
use Rattle.batcher_voter.proofs.voter.Voter.make_ready.Goals as goal

pub returns-then-has_waiting-clause-stays : goal.returns-then-has_waiting-clause-stays
returns-then-has_waiting-clause-stays g c =
    let it = c.keep_given.ensures in
    same_voting _ c.args.self.now c.keep_given.new.self it.frame.node it.knowledge it.frame.contents it.frame.is_open

pub returns-in-Ok-clause-stays : goal.returns-in-Ok-clause-stays
returns-in-Ok-clause-stays g c = λ past earlier is.
    let config = node_config g.S.Scheme.meaning g.S.PublicKey.Ord.cmp g.S.Signature.PartialEq.eq g.D.PartialEq.eq in
    let it = c.keep_given.ensures in
    let mid = c.keep_given.new.self in
    subst (λ node. VoterStays (config node) mid c.make_room.new.self) it.frame.node c.make_room.ensures.stays past earlier
    (same_voting _ c.args.self.now mid it.frame.node it.knowledge it.frame.contents it.frame.is_open past earlier is)

pub returns-in-Err-clause-stays : goal.returns-in-Err-clause-stays
returns-in-Err-clause-stays g c = λ past earlier is.
    let config = node_config g.S.Scheme.meaning g.S.PublicKey.Ord.cmp g.S.Signature.PartialEq.eq g.D.PartialEq.eq in
    let it = c.keep_given.ensures in
    let mid = c.keep_given.new.self in
    subst (λ node. VoterStays (config node) mid c.make_room.new.self) it.frame.node c.make_room.ensures.stays past earlier
    (same_voting _ c.args.self.now mid it.frame.node it.knowledge it.frame.contents it.frame.is_open past earlier is)
