use Rattle.batcher_verdicts.proofs.Words.{refl, rules, sym}
use Rattle.batcher_verdicts.proofs.network.RecordCertificateCall.make.Goals as goal

pub returns-clause-does : goal.returns-clause-does
returns-clause-does g c = rw (sym c.judged.view_is) (record {
  meets = c.in_ok-selected_anew.ensures.meets;
  elsewhere = search rules;
  needed = λ past represents. tt;
  none = search rules;
  refused = tt;
  verdicts = refl;
})
