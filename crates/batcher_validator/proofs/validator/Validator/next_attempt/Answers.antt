use Rattle.batcher_validator.proofs.Words.{round_config}
use Rattle.batcher_validator.proofs.Lending.{looks_there, none_there}
use Rattle.batcher_validator.proofs.validator.Validator.next_attempt.Goals as goal

pub returns-in-Some-round-clause-looks_at : goal.returns-in-Some-round-clause-looks_at
returns-in-Some-round-clause-looks_at g c = rw (← c.self.view_is, ← c.node-node.ensures)
    (looks_there (round_config g.S.Scheme.meaning g.S.PublicKey.Ord.cmp g.S.Signature.PartialEq.eq g.D.PartialEq.eq)
    _ c.in-Some.view.0 c.in-Some-round.round.now c.in-Some-round.ensures.round
    (λ a. a.subject) (λ a. a.pending.now) c.in-Some.ensures.next c.next_attempt.result c.next_attempt.ensures.subject
    c.next_attempt.ensures.pending)

pub returns-in-Some-round-clause-none : goal.returns-in-Some-round-clause-none
returns-in-Some-round-clause-none g c = rw (← c.self.view_is, ← c.node-node.ensures)
    (none_there (round_config g.S.Scheme.meaning g.S.PublicKey.Ord.cmp g.S.Signature.PartialEq.eq g.D.PartialEq.eq)
    _ c.in-Some.view.0 c.in-Some-round.round.now c.in-Some-round.ensures.round
    (λ a. a.subject) (λ a. a.pending.now) c.in-Some.ensures.next c.next_attempt.result c.next_attempt.ensures.subject)
