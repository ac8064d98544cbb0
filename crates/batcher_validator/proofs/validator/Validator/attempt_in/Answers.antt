use Rattle.batcher_validator.proofs.Words.{round_config}
use Rattle.batcher_validator.proofs.Lending.{kind_looks_in, no_kind_in}
use Rattle.batcher_validator.proofs.validator.Validator.attempt_in.Goals as goal

pub returns-in-Some-clause-looks_at : goal.returns-in-Some-clause-looks_at
returns-in-Some-clause-looks_at g c = rw (← c.self.view_is, ← c.node.ensures)
    (kind_looks_in (round_config g.S.Scheme.meaning g.S.PublicKey.Ord.cmp g.S.Signature.PartialEq.eq g.D.PartialEq.eq)
    _ c.args.view.0 c.in-Some.round.now c.in-Some.ensures.round (λ a. a.subject) (λ a. a.pending.now)
    c.args.kind c.attempt_of.result c.attempt_of.ensures.looks_at)

pub returns-in-Some-clause-none : goal.returns-in-Some-clause-none
returns-in-Some-clause-none g c = rw (← c.self.view_is, ← c.node.ensures)
    (no_kind_in (round_config g.S.Scheme.meaning g.S.PublicKey.Ord.cmp g.S.Signature.PartialEq.eq g.D.PartialEq.eq)
    _ c.args.view.0 c.in-Some.round.now c.in-Some.ensures.round (λ a. a.subject) (λ a. a.pending.now)
    c.args.kind c.attempt_of.result c.attempt_of.ensures.ready)
