use Rattle.batcher_ffi.proofs.Words.{inl, inr, refl, rules, sym}
use Rattle.batcher_ffi.proofs.judging.conclude_judged.Goals as goal

pub returns-in-Some-clause-concludes : goal.returns-in-Some-clause-concludes
returns-in-Some-clause-concludes c =
    rw (sym c.it.view_is) (inl (record {
      subject = c.in-Some.subject.now;
      list = c.in-Some.list.now;
      verdicts = c.in-Some.verdicts.now;
      there = c.in-Some.ensures.some;
      concluded = c.conclude_by.ensures.concluded;
      requests = refl;
    }))

pub returns-in-None-clause-concludes : goal.returns-in-None-clause-concludes
returns-in-None-clause-concludes c =
    rw (sym c.it.view_is) (inr (refl, (refl, c.judged.ensures.none (search rules))))
