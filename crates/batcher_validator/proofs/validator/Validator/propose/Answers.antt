use Rattle.batcher_validator.proofs.Words.{◌∙◌, ◌∷◌, arith, ap, node_config, refl, subst, chose, IsRunning}
use Rattle.batcher_validator.proofs.Choosing.{proposal_is}
use Rattle.batcher_validator.proofs.validator.Validator.propose.Goals as goal

pub returns-clause-chose : goal.returns-clause-chose
returns-clause-chose g c = λ within past earlier is.
    subst (λ p. IsRunning (node_config g.S.Scheme.meaning g.S.PublicKey.Ord.cmp g.S.Signature.PartialEq.eq
    g.D.PartialEq.eq c.args.self.now.voter.node) (chose p ∷ past) earlier c.judge.new.self)
    (proposal_is c.new.result c.epoch.result c.args.self.now.voter.node.epoch c.args.view c.args.parent c.args.payload
    c.new.ensures.round (c.epoch.ensures ∙ ap (λ v. v.voter.node.epoch) c.self.view_is) c.new.ensures.parent c.new.ensures.payload)
    (c.judge.ensures.chose refl (omega (arith, within, ap (λ r. r.view.0) c.new.ensures.round)) past earlier is)
