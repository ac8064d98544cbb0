use Rattle.batcher_validator.proofs.Signing.{casts_run, may_write_run}
use Rattle.batcher_validator.proofs.validator.Validator.cast.Goals as goal

pub returns-in-Ok-clause-meets : goal.returns-in-Ok-clause-meets
returns-in-Ok-clause-meets g c =
    casts_run _ c.args.self.now c.call_cast.new.self c.args.vote c.call_cast.ensures.casts.gains
    c.call_cast.ensures.given c.call_cast.ensures.shelf _ c.in-Ok.ensures.casts.meets c.call_cast.ensures.back

pub returns-in-Err-clause-refused : goal.returns-in-Err-clause-refused
returns-in-Err-clause-refused g c =
    may_write_run _ c.args.self.now c.call_cast.new.self c.args.vote c.call_cast.ensures.casts.gains
    c.call_cast.ensures.given c.call_cast.ensures.shelf c.in-Err.ensures.casts.refused
