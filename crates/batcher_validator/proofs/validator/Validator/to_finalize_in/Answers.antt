use Rattle.batcher_validator.proofs.Words.{refl, node_config}
use Rattle.batcher_validator.proofs.Deciding.{not_finalized, proposal_itself}
use Rattle.batcher_validator.proofs.validator.Validator.to_finalize_in.Goals as goal

pub returns-else-may_sign-clause-none : goal.returns-else-may_sign-clause-none
returns-else-may_sign-clause-none g c = λ none.
    not_finalized (node_config g.S.Scheme.meaning g.S.PublicKey.Ord.cmp g.S.Signature.PartialEq.eq g.D.PartialEq.eq)
    c.args.self.now g.D.PartialEq.eq g.met.D.Digest.identical (proposal_itself g.D.PartialEq.eq g.met.D.Eq.laws.refl)
    refl c.args.view.0 c.requires.from c.in-Some.proposal c.in-Some.ensures.some c.if-may_sign.ensures.signs
