use Rattle.batcher_file.proofs.Exact.{is_frame, no_frame, other_frame}
use Rattle.batcher_file.proofs.frame.frame_due.Goals as goal

pub returns-then-number-due-clause-some : goal.returns-then-number-due-clause-some
returns-then-number-due-clause-some c =
    is_frame c.args.bytes.now c.in-Ok.number c.args.due c.in-Ok.inside.now c.in-Ok.after.now
    c.type_inv.bytes c.if-number-due.true c.in-Ok.ensures

pub returns-else-number-due-clause-none : goal.returns-else-number-due-clause-none
returns-else-number-due-clause-none c =
    λ none inside after.
    other_frame c.args.bytes.now c.in-Ok.number c.args.due c.in-Ok.inside.now c.in-Ok.after.now
    c.if-number-due.false c.in-Ok.ensures inside after

pub returns-in-Err-clause-none : goal.returns-in-Err-clause-none
returns-in-Err-clause-none c =
    λ none. no_frame c.args.bytes.now c.args.due c.in-Err.field-0 c.in-Err.ensures
