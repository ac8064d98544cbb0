use Rattle.batcher_validator.proofs.Words.{subst, sym, node_config, Grounds}
use Rattle.batcher_validator.proofs.validator.Validator.next_to_propose.Goals as goal

pub returns-in-Some-clause-grounds : goal.returns-in-Some-clause-grounds
returns-in-Some-clause-grounds g c =
    subst (λ n. Grounds (node_config g.S.Scheme.meaning g.S.PublicKey.Ord.cmp g.S.Signature.PartialEq.eq g.D.PartialEq.eq)
    c.args.self.now n c.in-Some.parent) (sym c.current.ensures) c.in-Some.ensures.grounds
