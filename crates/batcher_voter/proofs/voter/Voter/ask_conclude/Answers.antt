use Rattle.batcher_voter.proofs.Words.{subst, IfOk, IfSome, NodeHistory, constructed, IsNodePromised, node_config, NodeMeets, NodeRepresents, IsOfItsView}
use Rattle.batcher_voter.proofs.Calling.{same_config}
use Rattle.batcher_voter.proofs.Given.{all_of_view}
use Rattle.batcher_voter.proofs.voter.Voter.ask_conclude.Goals as goal

pub returns-clause-meets : goal.returns-clause-meets
returns-clause-meets g c =
    subst (λ voter. IfOk c.conclude-made.result (λ made. IfSome made (λ one.
    NodeMeets (node_config g.S.Scheme.meaning g.S.PublicKey.Ord.cmp g.S.Signature.PartialEq.eq
    g.D.PartialEq.eq voter.node) voter.node (constructed one.view.0 one.batch)
    c.conclude-made.new.self)))
    c.self.view_is c.conclude-made.ensures.meets

pub returns-clause-of_view : goal.returns-clause-of_view
returns-clause-of_view g c =
    let config = node_config g.S.Scheme.meaning g.S.PublicKey.Ord.cmp g.S.Signature.PartialEq.eq
    g.D.PartialEq.eq in
    let new = c.conclude-made.new.self in
    subst (λ voter. IfOk c.conclude-made.result (λ made. IfSome made (IsOfItsView voter.node.epoch)))
    c.self.view_is
    (all_of_view (config c.self.inside.node) c.self.inside.node new g.met.D.Digest.identical
    c.self.invariant.0 c.promises.ensures.some.0
    (subst (λ x. (past : NodeHistory _ _ _ _) → NodeRepresents x past new → IsNodePromised x past)
    (same_config g.S.Scheme.meaning g.S.PublicKey.Ord.cmp g.S.Signature.PartialEq.eq
    g.D.PartialEq.eq c.self.inside.node new c.conclude-made.ensures.same)
    (λ past h. (c.promises-2.ensures.each past h).promised))
    c.conclude-made.result c.conclude-made.ensures.meets)
