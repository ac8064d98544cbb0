use Rattle.batcher_ffi.proofs.Words.{arith, ◌∙◌, ap, length, refl, rules, sym, true≢false, option_map}
use Rattle.batcher_ffi.proofs.Quorums.{round_makes_quorum}
use Rattle.batcher_ffi.proofs.Verified.{none_left, not_short, same_self, some_left}
use Rattle.batcher_ffi.proofs.rounds.try_construct.Goals as goal

pub returns-in-None : goal.returns-in-None
returns-in-None c = record {
  codes = search rules;
  short = not_short _ _ _ c.args.list.now c.args.signers.now c.is_short.result c.is_short.ensures
      c.participants.ensures c.if-is_short.false (λ is. omega (arith, is));
  wants = search rules;
  complete = search rules;
  done = search rules;
  idle = λ is. sym c.wanted.ensures.subject ∙ ap (option_map (λ a. a.subject)) c.in-None.is;
  needed = search rules;
  forgets = search rules;
  stays = λ is. refl;
  untouched = search rules;
  known_stays = λ is. refl;
  signers_stay = search rules;
  promised = c.ask.ensures;
  same = same_self c.args.round.now;
}

pub returns-then-not-is_empty : goal.returns-then-not-is_empty
returns-then-not-is_empty c = record {
  codes = search rules;
  short = not_short _ _ _ c.args.list.now c.args.signers.now c.is_short.result c.is_short.ensures
      c.participants.ensures c.if-is_short.false (λ is. omega (arith, is));
  wants = λ is. record {
    subject = c.in-Some.wanted.subject;
    asked = c.in-Some.wanted.pending.now;
    asks = c.in-Some.ensures.asked;
    some = some_left c.in-Some.wanted.pending.now (sym c.is_empty.ensures ∙ c.if-not-is_empty.true);
    about = c.write_wanted.ensures.subject;
    verified = c.write_wanted.ensures.verified ∙ ap length c.in-Some.ensures.verified;
    listed = c.write_wanted.ensures.listed;
    known_list = rw (sym c.in-Some.ensures.verified) c.write_wanted.ensures.known;
    written = c.write_wanted.ensures.list;
  };
  complete = search rules;
  done = search rules;
  idle = search rules;
  needed = search rules;
  forgets = search rules;
  stays = λ is. refl;
  untouched = search rules;
  known_stays = search rules;
  signers_stay = λ is. refl;
  promised = c.ask.ensures;
  same = same_self c.args.round.now;
}

pub returns-in-Ok-Some : goal.returns-in-Ok-Some
returns-in-Ok-Some c =
    let does = c.in-Ok-Some.ensures.does in
    record {
      codes = search rules;
      short = not_short _ _ _ c.args.list.now c.args.signers.now c.is_short.result c.is_short.ensures
          c.participants.ensures c.if-is_short.false (λ is. omega (arith, is));
      wants = search rules;
      complete = λ is. rw c.in-Ok-Some.field-0-is at does.made;
      done = λ is. (
        c.in-Ok-Some.batch,
        (
          c.write_batch.ensures.batch,
          (
            round_makes_quorum c.args.round.now _ _ _ c.in-Ok-Some.batch
                (rw c.in-Ok-Some.field-0-is at does.assembled)
                c.write_batch.ensures.batch.certificate,
            rw c.in-Ok-Some.field-0-is at does.meets,
          ),
        ),
      );
      idle = search rules;
      needed = search rules;
      forgets = λ is subject about. (rw c.in-Ok-Some.field-0-is at does.forgets) subject about;
      stays = search rules;
      untouched = search rules;
      known_stays = λ is. refl;
      signers_stay = search rules;
      promised = c.ask.ensures;
      same = c.in-Ok-Some.ensures.same;
    }

-- Nothing is wanted, so a construction is made.
pub returns-in-Ok-None : goal.returns-in-Ok-None
returns-in-Ok-None c =
    let none = none_left c.in-Some.wanted.pending.now (sym c.is_empty.ensures ∙ c.if-not-is_empty.false) in
    absurd (true≢false (sym (rw c.in-Ok-None.field-0-is at
    (c.in-Ok-None.ensures.does.complete c.in-Some.wanted.subject (rw none at c.in-Some.ensures.asked)))))

pub returns-in-Err : goal.returns-in-Err
returns-in-Err c =
    let does = c.in-Err.ensures.does in
    let none = none_left c.in-Some.wanted.pending.now (sym c.is_empty.ensures ∙ c.if-not-is_empty.false) in
    record {
      codes = search rules;
      short = not_short _ _ _ c.args.list.now c.args.signers.now c.is_short.result c.is_short.ensures
          c.participants.ensures c.if-is_short.false (λ is. omega (arith, is));
      wants = search rules;
      complete = λ is. (c.in-Some.wanted.subject, rw none at c.in-Some.ensures.asked);
      done = search rules;
      idle = search rules;
      needed = λ is. does.needed;
      forgets = search rules;
      stays = λ is. c.in-Err.ensures.whole does.refused;
      untouched = search rules;
      known_stays = λ is. refl;
      signers_stay = search rules;
      promised = c.ask.ensures;
      same = c.in-Err.ensures.same;
    }
