use Rattle.batcher_validator.proofs.Words.{refl}
use Rattle.batcher_validator.proofs.Choosing.{chooses}
use Rattle.batcher_validator.proofs.validator.Validator.judge.Goals as goal

pub returns-then-proposal-current-clause-chose : goal.returns-then-proposal-current-clause-chose
returns-then-proposal-current-clause-chose g c = λ valid within past earlier is.
    chooses _ c.args.self.now c.note_chosen.new.self _ c.note_chosen.ensures.given
    c.note_chosen.ensures.voter c.note_chosen.ensures.shelf past earlier is c.args.proposal.now refl
