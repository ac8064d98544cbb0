use Rattle.batcher_ffi.proofs.Words.{◌∙◌, sym, rules, arith, common_steps}
use Rattle.batcher_ffi.proofs.rounds.add_network.Goals as goal

pub returns-in-Ok-Some : goal.returns-in-Ok-Some
returns-in-Ok-Some c = record {
  codes = grind (arith, common_steps);
  malformed = search rules;
  elsewhere = λ not. rw (sym c.vote.ensures ∙ c.in-Some.is) (search rules);
  done = λ is. rw (sym c.vote.ensures ∙ c.in-Some.is, c.write.ensures.admission)
      (rw c.in-Ok-Some.field-0-is at c.in-Ok-Some.ensures.does.meets);
  retained = λ is. c.write.ensures.retained;
  needed = search rules;
  stays = search rules;
  verdicts = c.in-Ok-Some.ensures.does.verdicts;
  same = c.in-Ok-Some.ensures.same;
}
