use Rattle.batcher.proofs.Words.{refl, ap, named}
use Rattle.batcher.proofs.run.lists.answer_certificate.Goals as goal

pub returns-in-Ok : goal.returns-in-Ok
returns-in-Ok g c = record {
  steps = λ stream. (c.in-Ok.ensures.step, refl);
  meets = λ past represents. named _ (c.in-Ok.ensures.meets past represents);
  same = c.record_certificate.ensures.same;
}

pub returns-in-Err : goal.returns-in-Err
returns-in-Err g c =
    let stays = ap (λ r. r.holds) c.in-Err.ensures.refused in
    record {
      steps = λ stream. (stays, refl);
      meets = λ past represents. (stays, c.in-Err.ensures.needed past represents);
      same = c.record_certificate.ensures.same;
    }
