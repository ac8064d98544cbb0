use Rattle.batcher_validator.proofs.Words.{◌∙◌, subst, HasKey, kind_and_round}
use Rattle.batcher_validator.proofs.Queueing.{key_is}
use Rattle.batcher_validator.proofs.shelf.Shelf.has_one_of.Goals as goal

pub returns-in-Some : goal.returns-in-Some
returns-in-Some g c =
    record {
      item = c.in-Some.field-0.now;
      there = c.in-Some.ensures.some.0;
      is_of = c.in-Some.ensures.some.1 ∙ key_is _ _ _ _ c.kind.ensures c.round.ensures;
    }

pub returns-in-None : goal.returns-in-None
returns-in-None g c =
    subst (λ key. HasKey kind_and_round c.args.self.now.certificates key → ⊥)
    (key_is _ _ _ _ c.kind.ensures c.round.ensures) (c.get.ensures.none c.in-None.is)
