use Rattle.batcher_ffi.proofs.Words.{◌≡◌, ◌∙◌, Ok, ap, is_some, refl, rules, sym, true≢false}
use Rattle.batcher_ffi.proofs.Verified.{none_missing, same_read, same_self}
use Rattle.batcher_ffi.proofs.rounds.construct_together.Goals as goal

pub returns-in-Ok-None : goal.returns-in-Ok-None
returns-in-Ok-None c = record {
  codes = search rules;
  meaningless = search rules;
  stale = search rules;
  malformed = λ is some all there. none_missing c.args.list.now all there
      (c.in-Ok-None.ensures.none (ap Ok c.in-Ok-None.field-0-is));
  done = search rules;
  needed = search rules;
  stays = search rules;
  verdicts = refl;
  same = same_self c.args.round.now;
}

pub returns-in-Ok-None-call : goal.returns-in-Ok-None-call
returns-in-Ok-None-call c =
    let does = c.in-Ok-None-call.ensures.does in
    record {
      codes = search rules;
      meaningless = search rules;
      stale = λ is. rw (sym c.subject_of.ensures ∙ c.in-Some.is) (λ all there may.
          let items : all ≡ c.in-Ok-Some.all.items = same_read c.args.list.now all c.in-Ok-Some.all.items there
          (rw c.in-Ok-Some.field-0-is at c.in-Ok-Some.ensures.read) in
          true≢false (sym ((rw c.deref.ensures.value at does.not_stale) (rw items at may))
          ∙ ap is_some c.in-Ok-None-call.field-0-is));
      malformed = search rules;
      done = search rules;
      needed = search rules;
      stays = λ is. (c.in-Ok-None-call.ensures.whole (does.waits (ap Ok c.in-Ok-None-call.field-0-is)), refl);
      verdicts = does.verdicts;
      same = c.in-Ok-None-call.ensures.same;
    }
