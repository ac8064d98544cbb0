use Rattle.batcher_voter.proofs.Calling.{forwards}
use Rattle.batcher_voter.proofs.voter.Voter.try_forward_proposal.Goals as goal

pub returns-clause-meets : goal.returns-clause-meets
returns-clause-meets g c =
    forwards _ c.args.self.now c.call_forward.new.self c.args.view.0 c.args.me c.call_forward.result
    c.call_forward.ensures.frame.journal c.call_forward.ensures.frame.knowledge
    c.call_forward.ensures.frame.waits c.call_forward.ensures.meets
