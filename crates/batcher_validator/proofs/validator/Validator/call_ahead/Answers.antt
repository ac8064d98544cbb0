use Rattle.batcher_validator.proofs.Words.{◌≡◌, ◌∙◌, subst, sym, node_config, ahead_answer, Answered, CertifiedAhead}
use Rattle.batcher_validator.proofs.Catching.{certified_ahead}
use Rattle.batcher_validator.proofs.validator.Validator.call_ahead.Goals as goal

pub returns-clause-certifies : goal.returns-clause-certifies
returns-clause-certifies g c = λ certified.
    let config = node_config g.S.Scheme.meaning g.S.PublicKey.Ord.cmp g.S.Signature.PartialEq.eq g.D.PartialEq.eq in
    let answer = subst (λ v. Answered CertifiedAhead
    ≡ ahead_answer (config v.voter.node) v.voter.node c.args.peer c.args.certificate.now) c.self.view_is
    (sym certified ∙ c.receive_ahead.ensures.answer) in
    certified_ahead (config c.args.self.now.voter.node) c.args.self.now.voter.node c.args.certificate.now c.args.peer answer
