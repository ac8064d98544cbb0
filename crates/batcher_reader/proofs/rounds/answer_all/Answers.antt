use Rattle.batcher_reader.proofs.Words.{sym}
use Rattle.batcher_reader.proofs.rounds.answer_all.Goals as goal

pub run-requires-clause-calls : goal.run-requires-clause-calls
run-requires-clause-calls g c =
    rw (c.in_mode-round.ensures.scheme, c.in_mode-round.ensures.number, c.as_slice.ensures.value)
    (rw c.deref.ensures at c.in_ok-calls.ensures.may)

pub returns-clause-each : goal.returns-clause-each
returns-clause-each g c = rw c.deref.ensures at c.in_ok-calls.ensures.each

pub returns-clause-played : goal.returns-clause-played
returns-clause-played g c =
    record {
      compare_names = _;
      mode = c.in_mode-round.result.mode;
      before = _;
      after = _;
      held = _;
      ran =
          rw (c.in_mode-round.ensures.scheme, c.in_mode-round.ensures.number, c.as_slice.ensures.value, sym c.into_answers.ensures) at
          c.in_ok-ran.ensures.ran;
    }
