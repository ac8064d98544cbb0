use Rattle.batcher_validator.proofs.Words.{refl}
use Rattle.batcher_validator.proofs.Choosing.{refuses}
use Rattle.batcher_validator.proofs.validator.Validator.refuse.Goals as goal

pub returns-clause-refused : goal.returns-clause-refused
returns-clause-refused g c = λ past earlier is.
    refuses _ c.args.self.now c.note_refused.new.self _ c.note_refused.ensures.given
    c.note_refused.ensures.voter c.note_refused.ensures.shelf past earlier is c.args.subject.now refl
