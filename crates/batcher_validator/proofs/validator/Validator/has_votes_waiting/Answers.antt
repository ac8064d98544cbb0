use Rattle.batcher_validator.proofs.Words.{◌∙◌, sym}
use Rattle.batcher_validator.proofs.Looking.{not_at_rest}
use Rattle.batcher_validator.proofs.validator.Validator.has_votes_waiting.Goals as goal

pub returns-in-Some : goal.returns-in-Some
returns-in-Some g c = (
  sym c.is_verifying.ensures ∙ c.if-is_verifying.false,
  not_at_rest c.args.self.now.voter.node c.in-Some.field-0.0 c.in-Some.ensures.next,
)
