use Rattle.batcher_validator.proofs.Words.{node_config, refl}
use Rattle.batcher_validator.proofs.Deciding.{proposal_itself, refused_by, refused_unpreferred}
use Rattle.batcher_validator.proofs.validator.Validator.may_vote.Goals as goal

pub returns-in-Refused-clause-votes : goal.returns-in-Refused-clause-votes
returns-in-Refused-clause-votes g c =
    refused_by (node_config g.S.Scheme.meaning g.S.PublicKey.Ord.cmp g.S.Signature.PartialEq.eq g.D.PartialEq.eq)
    c.args.self.now g.D.PartialEq.eq (proposal_itself g.D.PartialEq.eq g.met.D.Eq.laws.refl)
    c.begins.ensures.view c.args.subject.now c.in-Refused.field-0 c.in-Refused.ensures.permits

pub returns-in-Refused-clause-preferred : goal.returns-in-Refused-clause-preferred
returns-in-Refused-clause-preferred g c = λ fails.
    refused_unpreferred
    (node_config g.S.Scheme.meaning g.S.PublicKey.Ord.cmp g.S.Signature.PartialEq.eq g.D.PartialEq.eq)
    c.args.self.now g.D.PartialEq.eq (proposal_itself g.D.PartialEq.eq g.met.D.Eq.laws.refl)
    c.begins.ensures.view refl c.requires c.ask.result c.args.subject.now c.in-Refused.field-0
    c.in-Refused.is c.in-Refused.ensures.permits c.ask.ensures.finalizes
