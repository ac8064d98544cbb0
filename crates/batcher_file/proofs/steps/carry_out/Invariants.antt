use Rattle.batcher_file.proofs.Words.{steps}
use Rattle.batcher_file.proofs.Doing.{IsUnderWay}
use Rattle.batcher_file.proofs.steps.carry_out.Given as goal

abbrev pub invariant-loop-number : goal.invariant-loop-number
invariant-loop-number g l =
    IsUnderWay g.K.Disk.seen g.K.Disk.may_leave g.K.Disk.is_usable g.K.Disk.is_clean g.K.Disk.is_mixing
    g.K.Disk.faults l.frame (steps l.plan.job) l.fn.current l.fn.other l.number l.current l.other
