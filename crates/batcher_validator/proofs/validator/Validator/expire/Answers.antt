use Rattle.batcher_validator.proofs.Words.{refl}
use Rattle.batcher_validator.proofs.Choosing.{expires}
use Rattle.batcher_validator.proofs.validator.Validator.expire.Goals as goal

pub returns-then-view-current-clause-expired : goal.returns-then-view-current-clause-expired
returns-then-view-current-clause-expired g c = λ within past earlier is.
    expires _ c.args.self.now c.note_expired.new.self _ c.note_expired.ensures.given
    c.note_expired.ensures.voter c.note_expired.ensures.shelf past earlier is c.args.view.0 refl
