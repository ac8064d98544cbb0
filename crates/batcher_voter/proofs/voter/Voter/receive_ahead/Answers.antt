use Rattle.batcher_voter.proofs.Words.{ap, refl, forgery_came}
use Rattle.batcher_voter.proofs.Calling.{quiet, same_of}
use Rattle.batcher_voter.proofs.voter.Voter.receive_ahead.Goals as goal

pub returns-clause-forged : goal.returns-clause-forged
returns-clause-forged g c = λ forged.
    quiet _ c.args.self.now c.call_ahead.new.self (forgery_came c.args.peer c.args.certificate.now)
    (c.call_ahead.ensures.forged forged) (ap (λ j. j.contents) c.call_ahead.ensures.journal)
    (ap (λ j. j.is_open) c.call_ahead.ensures.journal) (λ earlier past h. h) refl
    (same_of _ _ c.call_ahead.ensures.knowledge)
