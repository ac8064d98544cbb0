use Rattle.batcher_validator.proofs.validator.Validator.parent_for.Goals as goal

pub returns-clause-grounds : goal.returns-clause-grounds
returns-clause-grounds g c = rw (← c.self.view_is) c.parent_for.ensures.grounds

pub returns-clause-none : goal.returns-clause-none
returns-clause-none g c = rw (← c.self.view_is) c.parent_for.ensures.none
