use Rattle.batcher_validator.proofs.validator.Validator.final_after.Goals as goal

pub returns-clause-none : goal.returns-clause-none
returns-clause-none g c = rw (← c.self.view_is) c.final_after.ensures.none

pub returns-clause-some : goal.returns-clause-some
returns-clause-some g c = rw (← c.self.view_is) c.final_after.ensures.some

pub returns-clause-lowest : goal.returns-clause-lowest
returns-clause-lowest g c = rw (← c.self.view_is) c.final_after.ensures.lowest
