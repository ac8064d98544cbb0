use Rattle.batcher_validator.proofs.Words.{conduct_in, conduct_of, subst, voter_history, HasDecided}
use Rattle.batcher_validator.proofs.Settling.{refused_is_decided}
use Rattle.batcher_validator.proofs.validator.Validator.has_decided.Goals as goal

pub returns-in-Refused : goal.returns-in-Refused
returns-in-Refused g c = λ yes past earlier is.
    subst (λ n. HasDecided (conduct_in earlier past) n) c.round_of-round.ensures
    (refused_is_decided g.D.PartialEq.eq (conduct_in earlier past) (conduct_of (voter_history past))
    c.args.self.now.voter.knowledge.floor c.round_of-round.result c.in-Refused.field-0
    (c.in-Refused.ensures.permits (voter_history past) earlier is.voting))
