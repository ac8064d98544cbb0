use Rattle.batcher_voter.proofs.Calling.{stays_voting}
use Rattle.batcher_voter.proofs.voter.Voter.make_room.Goals as goal

pub returns-in-Ok-clause-stays : goal.returns-in-Ok-clause-stays
returns-in-Ok-clause-stays g c =
    stays_voting _ c.args.self.now c.take_room.new.self c.in-Ok.ensures.node c.in-Ok.ensures.journal
    c.in-Ok.ensures.knowledge

pub returns-in-Err-clause-stays : goal.returns-in-Err-clause-stays
returns-in-Err-clause-stays g c =
    stays_voting _ c.args.self.now c.take_room.new.self c.in-Err.ensures.node c.in-Err.ensures.journal
    c.in-Err.ensures.knowledge
