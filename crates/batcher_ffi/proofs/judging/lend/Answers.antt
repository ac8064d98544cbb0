use Rattle.batcher_ffi.proofs.Words.{◌≢◌, ◌∙◌, IDLE, inr, rules}
use Rattle.batcher_ffi.proofs.Judged.{lends_ahead, lends_next, lends_rest}
use Rattle.batcher_ffi.proofs.judging.lend.Goals as goal

pub returns-in-Some-eq12-clause-lends : goal.returns-in-Some-eq12-clause-lends
returns-in-Some-eq12-clause-lends c =
    inr (
      search rules,
      lends_ahead c.args.it.now _ _ _ (c.next_verified.ensures.none (search rules))
          (c.next_judged.ensures.none (search rules)) c.ask_next.new.it _ _ (search rules) c.ask_early.ensures,
    )

pub returns-in-Some-ask_next-clause-lends : goal.returns-in-Some-ask_next-clause-lends
returns-in-Some-ask_next-clause-lends c =
    let some : c.in-Some-ask_next.code ≢ IDLE = search rules in
    inr (
      search rules,
      lends_next c.args.it.now _ _ _ (c.next_verified.ensures.none (search rules))
          (c.next_judged.ensures.none (search rules)) _ some (search rules),
    )

pub returns-in-None-clause-lends : goal.returns-in-None-clause-lends
returns-in-None-clause-lends c =
    inr (
      search rules,
      lends_rest c.args.it.now _ _ _ (c.next_verified.ensures.none (search rules))
          (c.next_judged.ensures.none (search rules)) _ _ (c.it-in-None.view_is ∙ c.ask_next.ensures.same (search rules))
          (c.ask_next.ensures.stays (search rules)) (c.ask_next.ensures.none (search rules)) c.rest.ensures.rests,
    )
