use Rattle.batcher_file.proofs.Words.{Some, ap, sym, ◌∙◌, on_err_weaker, on_ok_weaker, steps}
use Rattle.batcher_file.proofs.Doing.{current_begun, current_next, other_begun, other_next}
use Rattle.batcher_file.proofs.steps.do_next.Goals as goal

pub returns-in-Some-true-default-clause-done : goal.returns-in-Some-true-default-clause-done
returns-in-Some-true-default-clause-done g c =
    on_ok_weaker c.do_step.result
    (other_next g.K.Disk.seen g.K.Disk.may_leave g.K.Disk.is_usable g.K.Disk.is_clean g.K.Disk.is_mixing
    g.K.Disk.faults c.args.frame.now (steps c.args.plan.job) c.args.current.now c.args.other.now
    c.args.number c.requires.current c.requires.other
    c.in-Some-true-default.step c.do_step.new.disk
    (sym c.step.ensures ∙ c.in-Some-true-default.is ∙ ap (λ b. Some (b, c.in-Some-true-default.step)) c.in-Some-true-default.field-0-0-test))
    c.do_step.ensures.done

pub returns-in-Some-true-default-clause-begun : goal.returns-in-Some-true-default-clause-begun
returns-in-Some-true-default-clause-begun g c =
    on_err_weaker c.do_step.result
    (other_begun g.K.Disk.seen g.K.Disk.may_leave g.K.Disk.is_usable g.K.Disk.is_clean g.K.Disk.is_mixing
    g.K.Disk.faults c.args.frame.now (steps c.args.plan.job) c.args.current.now c.args.other.now
    c.args.number c.requires.current c.requires.other
    c.in-Some-true-default.step c.do_step.new.disk
    (sym c.step.ensures ∙ c.in-Some-true-default.is ∙ ap (λ b. Some (b, c.in-Some-true-default.step)) c.in-Some-true-default.field-0-0-test))
    c.do_step.ensures.failed

pub returns-in-Some-false-default-clause-done : goal.returns-in-Some-false-default-clause-done
returns-in-Some-false-default-clause-done g c =
    on_ok_weaker c.do_step-in-Some-false-default.result
    (current_next g.K.Disk.seen g.K.Disk.may_leave g.K.Disk.is_usable g.K.Disk.is_clean g.K.Disk.is_mixing
    g.K.Disk.faults c.args.frame.now (steps c.args.plan.job) c.args.current.now c.args.other.now
    c.args.number c.requires.current c.requires.other
    c.in-Some-false-default.step c.do_step-in-Some-false-default.new.disk
    (sym c.step.ensures ∙ c.in-Some-false-default.is ∙ ap (λ b. Some (b, c.in-Some-false-default.step)) c.in-Some-false-default.field-0-0-test))
    c.do_step-in-Some-false-default.ensures.done

pub returns-in-Some-false-default-clause-begun : goal.returns-in-Some-false-default-clause-begun
returns-in-Some-false-default-clause-begun g c =
    on_err_weaker c.do_step-in-Some-false-default.result
    (current_begun g.K.Disk.seen g.K.Disk.may_leave g.K.Disk.is_usable g.K.Disk.is_clean g.K.Disk.is_mixing
    g.K.Disk.faults c.args.frame.now (steps c.args.plan.job) c.args.current.now c.args.other.now
    c.args.number c.requires.current c.requires.other
    c.in-Some-false-default.step c.do_step-in-Some-false-default.new.disk
    (sym c.step.ensures ∙ c.in-Some-false-default.is ∙ ap (λ b. Some (b, c.in-Some-false-default.step)) c.in-Some-false-default.field-0-0-test))
    c.do_step-in-Some-false-default.ensures.failed
