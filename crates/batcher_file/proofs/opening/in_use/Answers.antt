use Rattle.batcher_file.proofs.Choosing.{apart, blank_unread, first_unread, neither_read, second_unread, shown, whole_first, whole_second}
use Rattle.batcher_file.proofs.opening.in_use.Goals as goal

pub returns-then-is_blank-2-clause-refused : goal.returns-then-is_blank-2-clause-refused
returns-then-is_blank-2-clause-refused c =
    neither_read c.args.a.now c.args.b.now (blank_unread c.args.a.now c.if-is_blank.ensures)
    (blank_unread c.args.b.now c.if-is_blank-2.ensures)

pub returns-in-Err-clause-refused : goal.returns-in-Err-clause-refused
returns-in-Err-clause-refused c =
    shown (neither_read c.args.a.now c.args.b.now (blank_unread c.args.a.now c.if-is_blank.ensures))
    c.in-Err.fault c.in-Err.ensures.refused

pub returns-in-Err-side-clause-refused : goal.returns-in-Err-side-clause-refused
returns-in-Err-side-clause-refused c =
    shown (λ none. first_unread c.args.a.now c.args.b.now none c.if-is_blank.ensures)
    c.in-Err-side.fault c.in-Err-side.ensures.refused

pub returns-in-Err-side-2-clause-refused : goal.returns-in-Err-side-2-clause-refused
returns-in-Err-side-2-clause-refused c =
    shown (λ none. second_unread c.args.a.now c.args.b.now none c.if-is_blank-3.ensures)
    c.in-Err-side-2.fault c.in-Err-side-2.ensures.refused

pub returns-else-second-first-clause-refused : goal.returns-else-second-first-clause-refused
returns-else-second-first-clause-refused c =
    apart c.args.a.now c.args.b.now _ _ _ _ _ _ _ _ c.in-Ok-side.ensures.found c.in-Ok-side-2.ensures.found
    c.if-is_blank.ensures c.if-is_blank-3.ensures c.if-first-second.false c.if-second-first.false

pub returns-in-Err-clause-damage : goal.returns-in-Err-clause-damage
returns-in-Err-clause-damage c =
    whole_second c.args.a.now c.args.b.now c.in-Err.fault c.in-Err.ensures.damage c.in-Err.ensures.side

pub returns-in-Err-side-clause-damage : goal.returns-in-Err-side-clause-damage
returns-in-Err-side-clause-damage c =
    whole_first c.args.a.now c.args.b.now c.in-Err-side.fault c.in-Err-side.ensures.damage c.in-Err-side.ensures.side

pub returns-in-Err-side-2-clause-damage : goal.returns-in-Err-side-2-clause-damage
returns-in-Err-side-2-clause-damage c =
    whole_second c.args.a.now c.args.b.now c.in-Err-side-2.fault c.in-Err-side-2.ensures.damage c.in-Err-side-2.ensures.side
