use Rattle.batcher_file.proofs.Words.{inr, ◌∙◌, rest_settled, steps}
use Rattle.batcher_file.proofs.Making.{made_settled, making_leaves}
use Rattle.batcher_file.proofs.Reopening.{begun_honest, done_honest}
use Rattle.batcher_file.proofs.log.FileLog.create.Goals as goal

pub returns-in-Ok-clause-settled : goal.returns-in-Ok-clause-settled
returns-in-Ok-clause-settled g c = record {
  current_usable = c.in-Ok.ensures.done.usable;
  other_usable = c.in-Ok.ensures.done.other_usable;
  rest = λ honest.
      let was = done_honest g.K.Disk.seen g.K.Disk.may_leave g.K.Disk.is_usable g.K.Disk.is_clean
      g.K.Disk.is_mixing g.K.Disk.faults c.create.new.self.frame.items (steps c.in_ok-plan.plan.job)
      c.read_all.new.disk c.read_all-2.new.disk c.carry_out.new.self.current c.carry_out.new.self.other
      c.in-Ok.ensures.done.done honest.0 honest.1 in
      made_settled g.K.Disk.seen g.K.Disk.may_leave g.K.Disk.is_usable g.K.Disk.is_clean
      g.K.Disk.is_mixing g.K.Disk.faults c.args.bytes.now
      (record { files = c.create.new.self; current = c.read_all.new.disk; other = c.read_all-2.new.disk })
      c.in_ok-plan.plan c.carry_out.new.self c.in_ok-first.ensures.durable c.in_ok-second.ensures.durable
      (rw (
        c.in_ok-first.ensures.seen,
        c.in_ok-second.ensures.seen,
        ← c.deref.ensures.value ∙ c.in_ok-first.ensures.bytes was.0,
        ← c.deref-2.ensures.value ∙ c.in_ok-second.ensures.bytes was.1,
      ) c.in_ok-plan.ensures.made)
      c.in-Ok.ensures.done;
}

pub returns-in-Ok-clause-leaves : goal.returns-in-Ok-clause-leaves
returns-in-Ok-clause-leaves g c =
    λ left honest may.
    inr (rest_settled g.K.Disk.seen g.K.Disk.may_leave g.K.Disk.is_usable g.K.Disk.is_clean
    c.carry_out.new.self left honest (returns-in-Ok-clause-settled g c) may
    ∙ c.in-Ok.ensures.done.bytes ∙ c.in_ok-plan.ensures.made.bytes_are)

pub returns-clause-leaves : goal.returns-clause-leaves
returns-clause-leaves g c =
    λ left honest may.
    let was = begun_honest g.K.Disk.seen g.K.Disk.may_leave g.K.Disk.is_usable g.K.Disk.is_clean
    g.K.Disk.is_mixing g.K.Disk.faults c.create.new.self.frame.items (steps c.in_ok-plan.plan.job)
    c.read_all.new.disk c.read_all-2.new.disk c.carry_out.new.self.current c.carry_out.new.self.other
    c.in-Err.ensures.begun.begun honest.0 honest.1 in
    inr (making_leaves g.K.Disk.seen g.K.Disk.may_leave g.K.Disk.is_usable g.K.Disk.is_clean
    g.K.Disk.is_mixing g.K.Disk.faults c.args.bytes.now
    (record { files = c.create.new.self; current = c.read_all.new.disk; other = c.read_all-2.new.disk })
    c.in_ok-plan.plan c.carry_out.new.self c.in_ok-first.ensures.durable c.in_ok-second.ensures.durable
    (rw (
      c.in_ok-first.ensures.seen,
      c.in_ok-second.ensures.seen,
      ← c.deref.ensures.value ∙ c.in_ok-first.ensures.bytes was.0,
      ← c.deref-2.ensures.value ∙ c.in_ok-second.ensures.bytes was.1,
    ) c.in_ok-plan.ensures.made)
    c.in-Err.ensures.begun left may)
