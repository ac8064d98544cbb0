use Rattle.batcher_file.proofs.Words.{inl, inr, ◌∙◌, rest_opens, rest_settled}
use Rattle.batcher_file.proofs.Logs.{append_leaves, append_opens, append_settled, unchanged_leaves, unchanged_opens}
use Rattle.batcher_file.proofs.log.FileLogLog.append.Goals as goal

pub returns-in_err-plan-clause-leaves : goal.returns-in_err-plan-clause-leaves
returns-in_err-plan-clause-leaves g c =
    λ left honest may.
    inl (unchanged_leaves g.K.Disk.seen g.K.Disk.may_leave g.K.Disk.is_usable g.K.Disk.is_clean
    g.K.Disk.is_mixing g.K.Disk.faults c.args.self.now c.requires c.append.new.self left honest may)

pub returns-in_err-plan-clause-opens : goal.returns-in_err-plan-clause-opens
returns-in_err-plan-clause-opens g c =
    unchanged_opens g.K.Disk.seen g.K.Disk.may_leave g.K.Disk.is_usable g.K.Disk.is_clean
    g.K.Disk.is_mixing g.K.Disk.faults c.args.self.now c.requires c.append.new.self c.in_err-plan.ensures.kept

pub returns-in-Ok-clause-ok : goal.returns-in-Ok-clause-ok
returns-in-Ok-clause-ok g c = (
  append_settled g.K.Disk.seen g.K.Disk.may_leave g.K.Disk.is_usable g.K.Disk.is_clean
      g.K.Disk.is_mixing g.K.Disk.faults c.args.self.now c.requires c.args.bytes.now c.append.new.self
      c.in_ok-plan.plan c.carry_out.new.self c.in_ok-plan.ensures.added c.in-Ok.ensures.done,
  c.in-Ok.ensures.done.bytes ∙ c.in_ok-plan.ensures.added.bytes_are,
)

pub returns-in-Ok-clause-leaves : goal.returns-in-Ok-clause-leaves
returns-in-Ok-clause-leaves g c =
    λ left honest may.
    let ok = returns-in-Ok-clause-ok g c in
    inr (rest_settled g.K.Disk.seen g.K.Disk.may_leave g.K.Disk.is_usable g.K.Disk.is_clean c.carry_out.new.self left honest ok.0 may
    ∙ ok.1)

pub returns-in-Ok-clause-opens : goal.returns-in-Ok-clause-opens
returns-in-Ok-clause-opens g c =
    λ honest lose.
    rest_opens g.K.Disk.seen g.K.Disk.may_leave g.K.Disk.is_usable g.K.Disk.is_clean g.K.Disk.is_mixing
    c.carry_out.new.self honest (returns-in-Ok-clause-ok g c).0 lose

pub returns-in-Err-clause-leaves : goal.returns-in-Err-clause-leaves
returns-in-Err-clause-leaves g c =
    append_leaves g.K.Disk.seen g.K.Disk.may_leave g.K.Disk.is_usable g.K.Disk.is_clean
    g.K.Disk.is_mixing g.K.Disk.faults c.args.self.now c.requires c.args.bytes.now c.append.new.self
    c.in_ok-plan.plan c.carry_out.new.self c.in_ok-plan.ensures.added c.in-Err.ensures.begun

pub returns-in-Err-clause-opens : goal.returns-in-Err-clause-opens
returns-in-Err-clause-opens g c =
    append_opens g.K.Disk.seen g.K.Disk.may_leave g.K.Disk.is_usable g.K.Disk.is_clean
    g.K.Disk.is_mixing g.K.Disk.faults c.args.self.now c.requires c.args.bytes.now c.append.new.self
    c.in_ok-plan.plan c.carry_out.new.self c.in_ok-plan.ensures.added c.in-Err.ensures.begun
