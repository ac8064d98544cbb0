use Rattle.batcher_validator.proofs.Words.{log_of, refl}
use Rattle.batcher_validator.proofs.next.Validator+Signed+T+true+Sha256Digest+CopiedLog.log_has_what_was_done.Goals as goal

pub returns : goal.returns
returns g c = λ opened past earlier is.
    c.leaves_what_was_done.ensures (log_of c.args.self.now) opened tt refl past earlier is
