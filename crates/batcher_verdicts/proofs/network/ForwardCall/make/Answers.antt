use Rattle.batcher_verdicts.proofs.Words.{refl, sym}
use Rattle.batcher_verdicts.proofs.network.ForwardCall.make.Goals as goal

pub returns-clause-does : goal.returns-clause-does
returns-clause-does g c = rw (sym c.judged.view_is) (record {
  meets = c.try_forward_proposal.ensures.meets;
  verdicts = refl;
})
