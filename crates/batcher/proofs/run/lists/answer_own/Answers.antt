use Rattle.batcher.proofs.Words.{◌≡◌, refl, ap, sym, Err, ◌∙◌, rules, round_config, own_result, named, own_same}
use Rattle.batcher.proofs.run.lists.answer_own.Goals as goal

pub returns-in-Ok : goal.returns-in-Ok
returns-in-Ok g c = record {
  steps = λ stream. (c.in-Ok.ensures.step, refl);
  meets = λ past represents. named _ (c.in-Ok.ensures.meets past represents);
  same = c.accept_vote.ensures.same;
}

pub returns-in-Err-OutOfMemory-clause-meets : goal.returns-in-Err-OutOfMemory-clause-meets
returns-in-Err-OutOfMemory-clause-meets g c = λ past represents. (
  ap (λ r. r.holds) c.in-Err-OutOfMemory.ensures.refused,
  c.in-Err-OutOfMemory.ensures.needed past represents (ap Err c.in-Err-OutOfMemory.field-0-is),
)

pub returns-in-Err : goal.returns-in-Err
returns-in-Err g c =
    let held = c.args.round.now.holds in
    let x = round_config g.S.Scheme.meaning g.S.PublicKey.Ord.cmp g.S.Signature.PartialEq.eq g.D.PartialEq.eq c.args.round.now in
    let faulty : own_result x held c.args.vote ≡ Err c.in-Err.fault = search rules in
    let stays = ap (λ r. r.holds) c.in-Err.ensures.refused in
    record {
      steps = λ stream. (faulty, (stays, refl));
      meets = λ past represents. (stays, sym (own_same _ past held c.args.vote represents) ∙ faulty);
      same = c.accept_vote.ensures.same;
    }
