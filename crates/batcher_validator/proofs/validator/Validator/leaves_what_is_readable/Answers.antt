use Rattle.batcher_validator.proofs.validator.Validator.leaves_what_is_readable.Goals as goal

pub returns : goal.returns
returns g c = rw (← c.self.view_is) c.leaves_what_is_readable.ensures
