use Rattle.batcher.proofs.Words.{refl, named}
use Rattle.batcher.proofs.run.lists.step.Goals as goal

pub returns-in-Network : goal.returns-in-Network
returns-in-Network g c = record {
  steps = rw c.in-Network.is (c.answer_network.ensures.steps _);
  meets = rw c.in-Network.is c.answer_network.ensures.meets;
  same = c.answer_network.ensures.same;
}

pub returns-in-Own : goal.returns-in-Own
returns-in-Own g c = record {
  steps = rw c.in-Own.is (c.answer_own.ensures.steps _);
  meets = rw c.in-Own.is c.answer_own.ensures.meets;
  same = c.answer_own.ensures.same;
}

pub returns-in-Certificate : goal.returns-in-Certificate
returns-in-Certificate g c = record {
  steps = rw c.in-Certificate.is (c.answer_certificate.ensures.steps _);
  meets = rw c.in-Certificate.is c.answer_certificate.ensures.meets;
  same = c.answer_certificate.ensures.same;
}

pub returns-in-Leader-clause-meets : goal.returns-in-Leader-clause-meets
returns-in-Leader-clause-meets g c =
    rw c.in-Leader.is (λ past represents. (c.set_leader.ensures.meets past represents, c.set_leader.ensures.named past represents))

pub returns-in-Construct : goal.returns-in-Construct
returns-in-Construct g c = record {
  steps = rw c.in-Construct.is c.answer_construct.ensures.steps;
  meets = rw c.in-Construct.is c.answer_construct.ensures.meets;
  same = c.answer_construct.ensures.same;
}

pub returns-in-Forward : goal.returns-in-Forward
returns-in-Forward g c = record {
  steps = rw c.in-Forward.is (c.try_forward_proposal.ensures.answer, (c.try_forward_proposal.ensures.holds, refl));
  meets = rw c.in-Forward.is (λ past represents. named _ (c.try_forward_proposal.ensures.meets past represents));
  same = c.try_forward_proposal.ensures.same;
}

pub returns-in-Missing : goal.returns-in-Missing
returns-in-Missing g c = record {
  steps = rw c.in-Missing.is (c.answer_missing.ensures.steps _);
  meets = rw c.in-Missing.is c.answer_missing.ensures.meets;
  same = (refl, refl, refl);
}
