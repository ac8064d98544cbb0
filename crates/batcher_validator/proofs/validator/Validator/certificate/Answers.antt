use Rattle.batcher_validator.proofs.validator.Validator.certificate.Goals as goal

pub returns-clause-some : goal.returns-clause-some
returns-clause-some g c = rw (← c.self.view_is) c.get.ensures.some

pub returns-clause-none : goal.returns-clause-none
returns-clause-none g c = rw (← c.self.view_is) c.get.ensures.none
