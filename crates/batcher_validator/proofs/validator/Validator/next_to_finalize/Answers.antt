use Rattle.batcher_validator.proofs.Words.{◌∙◌, sym}
use Rattle.batcher_validator.proofs.validator.Validator.next_to_finalize.Goals as goal

pub next_to_finalize_behind-requires-clause-not_there :
    goal.next_to_finalize_behind-requires-clause-not_there
next_to_finalize_behind-requires-clause-not_there g c = λ p here.
    c.to_finalize_in.ensures.none c.in-None.is p (here ∙ sym c.final_view.ensures)
