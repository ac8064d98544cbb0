use Rattle.batcher_verdicts.proofs.Words.{arith, refl, rules, sym, common_steps}
use Rattle.batcher_verdicts.proofs.own.AcceptVoteCall.make.Goals as goal
use Rattle.batcher_verdicts.proofs.own.AcceptVoteCall.make.Goals.{in-Ok, in-Err}

pub returns-clause-does : goal.returns-clause-does
returns-clause-does g c = elim c.match-accept_vote.branch [
  | in-Ok w ↦ rw (w.result-is, sym c.judged.view_is) (record {
    meets = w.in-Ok.ensures.meets;
    elsewhere = search rules;
    verified = c.if-not-self.false;
    not_verified = search rules;
    named = search rules;
    needed = search rules;
    outcome = grind (arith, common_steps);
    refused = tt;
    verdicts = refl;
  })
  | in-Err w ↦ rw (w.result-is, sym c.judged.view_is) (record {
    meets = tt;
    elsewhere = search rules;
    verified = tt;
    not_verified = search rules;
    named = search rules;
    needed = search rules;
    outcome = tt;
    refused = search rules;
    verdicts = refl;
  })
]
