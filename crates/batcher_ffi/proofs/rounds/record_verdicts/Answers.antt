use Rattle.batcher_ffi.proofs.Words.{◌≡◌, ◌∙◌, nat_lt, true, false, Ok, ap, length, refl, rules, sym, list_all, true≢false, config_of_handle}
use Rattle.batcher_ffi.proofs.Verified.{all_attest, as_long, none_missing, same_read, same_self}
use Rattle.batcher_ffi.proofs.rounds.record_verdicts.Goals as goal

pub call-requires : goal.call-requires
call-requires c =
    let items = c.in-Ok-Some.all.items in
    let read = rw c.in-Ok-Some.field-0-is at c.in-Ok-Some.ensures.read in
    let given = (rw (sym c.subject_of.ensures ∙ c.in-Some.is) at c.requires) items read
    (c.if-verdicts-list.false ∙ as_long c.args.list.now items read) in
    let part : list_all (λ a. nat_lt a.signer.0 (length (config_of_handle c.args.round.now).meaning.participants)) items ≡ true =
    rw (sym c.participants.ensures, sym c.deref.ensures.value)
    (sym c.take_part.ensures ∙ c.if-not-take_part.false) in
    rw c.deref-2.ensures.value (given ∙ all_attest c.args.round.now c.in-Some.subject items part)

pub returns-in-Ok-true : goal.returns-in-Ok-true
returns-in-Ok-true c = record {
  codes = search rules;
  meaningless = search rules;
  unlike = search rules;
  malformed = search rules;
  records = λ is. rw (sym c.subject_of.ensures ∙ c.in-Some.is) (
    c.in-Ok-Some.all.items,
    (
      rw c.in-Ok-Some.field-0-is at c.in-Ok-Some.ensures.read,
      rw c.deref-2.ensures.value at (c.in-Ok-true.ensures.does.records (ap Ok c.in-Ok-true.field-0-test)),
    ),
  );
  stale = search rules;
  needed = search rules;
  stays = search rules;
  round = c.in-Ok-true.ensures.does.round;
  same = c.in-Ok-true.ensures.same;
}

pub returns-in-Ok-false : goal.returns-in-Ok-false
returns-in-Ok-false c = record {
  codes = search rules;
  meaningless = search rules;
  unlike = search rules;
  malformed = search rules;
  records = search rules;
  stale = λ is. rw (sym c.subject_of.ensures ∙ c.in-Some.is) (λ all rest there asks.
      let items : all ≡ c.in-Ok-Some.all.items = same_read c.args.list.now all c.in-Ok-Some.all.items there
      (rw c.in-Ok-Some.field-0-is at c.in-Ok-Some.ensures.read) in
      true≢false (sym ((rw c.deref-2.ensures.value at c.in-Ok-false.ensures.does.not_stale) rest
      (rw items at asks)) ∙ c.in-Ok-false.field-0-test));
  needed = search rules;
  stays = λ is. c.in-Ok-false.ensures.whole
      (c.in-Ok-false.ensures.does.stale (ap Ok c.in-Ok-false.field-0-test));
  round = c.in-Ok-false.ensures.does.round;
  same = c.in-Ok-false.ensures.same;
}

pub returns-in-Ok-None : goal.returns-in-Ok-None
returns-in-Ok-None c = record {
  codes = search rules;
  meaningless = search rules;
  unlike = search rules;
  malformed = λ is some parts alike. none_missing c.args.list.now parts.0 parts.1.0
      (c.in-Ok-None.ensures.none (ap Ok c.in-Ok-None.field-0-is));
  records = search rules;
  stale = search rules;
  needed = search rules;
  stays = search rules;
  round = refl;
  same = same_self c.args.round.now;
}

pub returns-then-not-take_part : goal.returns-then-not-take_part
returns-then-not-take_part c = record {
  codes = search rules;
  meaningless = search rules;
  unlike = search rules;
  malformed = λ is some parts alike.
      let items : parts.0 ≡ c.in-Ok-Some.all.items = same_read c.args.list.now parts.0 c.in-Ok-Some.all.items
      parts.1.0 (rw c.in-Ok-Some.field-0-is at c.in-Ok-Some.ensures.read) in
      let part : list_all (λ a. nat_lt a.signer.0 (length (config_of_handle c.args.round.now).meaning.participants)) c.in-Ok-Some.all.items ≡ false =
      rw (sym c.participants.ensures, sym c.deref.ensures.value)
      (sym c.take_part.ensures ∙ c.if-not-take_part.true) in
      true≢false (sym (rw items at parts.1.1) ∙ part);
  records = search rules;
  stale = search rules;
  needed = search rules;
  stays = search rules;
  round = refl;
  same = same_self c.args.round.now;
}
