use Rattle.batcher.proofs.Words.{ap, named}
use Rattle.batcher.proofs.run.lists.answer_construct.Goals as goal

pub returns-in-Ok : goal.returns-in-Ok
returns-in-Ok g c = record {
  steps = c.in-Ok.ensures.step;
  meets = λ past represents. named _ (c.in-Ok.ensures.meets past represents);
  same = c.try_construct.ensures.same;
}

pub returns-in-Err : goal.returns-in-Err
returns-in-Err g c =
    let stays = ap (λ r. r.holds) c.in-Err.ensures.refused in
    record {
      steps = stays;
      meets = λ past represents. (stays, c.in-Err.ensures.needed past represents);
      same = c.try_construct.ensures.same;
    }
