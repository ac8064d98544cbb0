use Rattle.batcher_voter.proofs.Words.{ap, refl, vote_came}
use Rattle.batcher_voter.proofs.Calling.{quiet, same_of}
use Rattle.batcher_voter.proofs.voter.Voter.receive_vote.Goals as goal

pub returns-in-Ok-clause-meets : goal.returns-in-Ok-clause-meets
returns-in-Ok-clause-meets g c =
    quiet _ c.args.self.now c.call_vote.new.self (vote_came c.args.peer c.args.vote c.in-Ok.receipt)
    c.in-Ok.ensures.meets (ap (λ j. j.contents) c.in-Ok.ensures.frame.journal)
    (ap (λ j. j.is_open) c.in-Ok.ensures.frame.journal) (λ earlier past h. h) refl
    (same_of _ _ c.in-Ok.ensures.frame.knowledge)
