use Rattle.batcher_verdicts.proofs.Words.{refl, sym}
use Rattle.batcher_verdicts.proofs.Plain.{on_err}
use Rattle.batcher_verdicts.proofs.construct.ConcludeCall.make.Goals as goal

pub returns-clause-does : goal.returns-clause-does
returns-clause-does g c = rw (sym c.judged.view_is) (
    let e = c.try_construct.ensures in
    record {
      complete = e.complete;
      made = e.made;
      meets = e.meets;
      needed = e.needed;
      certifies = e.certifies;
      assembled = e.assembled;
      forgets = e.forgets;
      waits = λ is. let both = e.waits is in rw (both.0, both.1) refl;
      refused = on_err c.try_construct.result (λ both. rw (both.0, both.1) refl) e.refused;
    })
