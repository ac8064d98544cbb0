use Rattle.batcher_round.proofs.Words.{◌∙◌, nullify_same}
use Rattle.batcher_round.proofs.round.Round.has_nullify.Goals as goal

pub returns-clause-meets : goal.returns-clause-meets
returns-clause-meets g c = rw (← c.self.view_is) (λ past represents. c.has_nullify.ensures ∙ nullify_same _ past _ c.args.signer.0 represents)
