use Rattle.batcher_ffi.proofs.Words.{refl, rules, sym, subst, LendsNone}
use Rattle.batcher_ffi.proofs.judging.ask_next.Goals as goal

pub returns-in-Some-clause-some : goal.returns-in-Some-clause-some
returns-in-Some-clause-some c =
    rw (sym c.it.view_is) (record {
      subject = c.in-Some.wanted.subject;
      waiting = c.in-Some.wanted.pending.now;
      looks_at = c.in-Some.ensures.looks_at;
      asks = c.hand_out.ensures.asks;
      validator = refl;
    })

pub returns-in-None-clause-none : goal.returns-in-None-clause-none
returns-in-None-clause-none c = λ _.
    subst (λ j. LendsNone j.validator) c.it.view_is
    (λ view subject all next looks. c.next_attempt.ensures.none (search rules) view subject all next looks)
