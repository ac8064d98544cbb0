use Rattle.batcher.proofs.Words.{refl, named}
use Rattle.batcher.proofs.run.lists.answer_missing.Goals as goal

pub returns-in-Ok : goal.returns-in-Ok
returns-in-Ok g c = record {
  steps = λ stream. (c.in-Ok.ensures.held, (refl, refl));
  meets = λ past represents. named _ (c.in-Ok.ensures.meets past represents);
}

pub returns-in-Err : goal.returns-in-Err
returns-in-Err g c = record {
  steps = λ stream. (refl, refl);
  meets = λ past represents. (refl, refl);
}
