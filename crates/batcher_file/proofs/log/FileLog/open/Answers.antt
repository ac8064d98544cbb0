use Rattle.batcher_file.proofs.Words.{subst, ◌∙◌, IsBegun, IsCarriedOut}
use Rattle.batcher_file.proofs.Reopening.{lost_nothing, open_found, open_leaves, open_opens, open_settled, opened_leaves, opened_opens, refused}
use Rattle.batcher_file.proofs.log.FileLog.open.Goals as goal

pub returns-in_err-first-clause-opens : goal.returns-in_err-first-clause-opens
returns-in_err-first-clause-opens g c =
    λ bytes disk honest lose.
    lost_nothing g.K.Disk.seen g.K.Disk.may_leave g.K.Disk.is_usable g.K.Disk.is_clean
    g.K.Disk.is_mixing g.K.Disk.faults
    c.args.self.now _ bytes disk c.in_err-first.ensures.crash (λ file left. left) lose

pub returns-in_err-second-clause-opens : goal.returns-in_err-second-clause-opens
returns-in_err-second-clause-opens g c =
    λ bytes disk honest lose.
    lost_nothing g.K.Disk.seen g.K.Disk.may_leave g.K.Disk.is_usable g.K.Disk.is_clean
    g.K.Disk.is_mixing g.K.Disk.faults
    c.args.self.now _ bytes disk c.in_ok-first.ensures.crash c.in_err-second.ensures.crash lose

pub returns-in-Err-clause-refused : goal.returns-in-Err-clause-refused
returns-in-Err-clause-refused g c =
    λ honest.
    rw (
      ← c.deref.ensures.value ∙ c.in_ok-first.ensures.bytes honest.0,
      ← c.deref-2.ensures.value ∙ c.in_ok-second.ensures.bytes honest.1,
    ) (refused c.deref.result.now c.deref-2.result.now c.in-Err.fault c.in-Err.ensures.refused c.in-Err.ensures.damage)

pub returns-in-Err-clause-opens : goal.returns-in-Err-clause-opens
returns-in-Err-clause-opens g c =
    λ bytes disk honest lose.
    lost_nothing g.K.Disk.seen g.K.Disk.may_leave g.K.Disk.is_usable g.K.Disk.is_clean
    g.K.Disk.is_mixing g.K.Disk.faults
    c.args.self.now _ bytes disk c.in_ok-first.ensures.crash c.in_ok-second.ensures.crash lose

pub returns-in-Ok-carry_out-clause-settled : goal.returns-in-Ok-carry_out-clause-settled
returns-in-Ok-carry_out-clause-settled g c =
    open_settled g.K.Disk.seen g.K.Disk.may_leave g.K.Disk.is_usable g.K.Disk.is_clean
    g.K.Disk.is_mixing g.K.Disk.faults
    g.met.K.Disk.seen_may_stay c.args.self.now c.read_all.new.disk c.read_all-2.new.disk
    c.deref.result.now c.deref-2.result.now
    (record {
      same = c.in_ok-first.ensures.seen;
      kept = c.in_ok-first.ensures.durable;
      crash = c.in_ok-first.ensures.crash;
      bytes = λ clean. c.deref.ensures.value ∙ c.in_ok-first.ensures.bytes clean;
    })
    (record {
      same = c.in_ok-second.ensures.seen;
      kept = c.in_ok-second.ensures.durable;
      crash = c.in_ok-second.ensures.crash;
      bytes = λ clean. c.deref-2.ensures.value ∙ c.in_ok-second.ensures.bytes clean;
    })
    c.open.new.self c.in-Ok.opened.1 c.carry_out.new.self c.in-Ok.opened.0 c.in-Ok.ensures.found
    (subst (λ log. IsCarriedOut g.K.Disk.seen g.K.Disk.may_leave g.K.Disk.is_usable g.K.Disk.is_clean
    g.K.Disk.is_mixing g.K.Disk.faults c.in-Ok.opened.1 log c.carry_out.new.self) c.turn.ensures
    c.in-Ok-carry_out.ensures.done)

pub returns-in-Ok-carry_out-clause-found : goal.returns-in-Ok-carry_out-clause-found
returns-in-Ok-carry_out-clause-found g c =
    open_found g.K.Disk.seen g.K.Disk.may_leave g.K.Disk.is_usable g.K.Disk.is_clean
    g.K.Disk.is_mixing g.K.Disk.faults
    g.met.K.Disk.seen_may_stay c.args.self.now c.read_all.new.disk c.read_all-2.new.disk
    c.deref.result.now c.deref-2.result.now
    (record {
      same = c.in_ok-first.ensures.seen;
      kept = c.in_ok-first.ensures.durable;
      crash = c.in_ok-first.ensures.crash;
      bytes = λ clean. c.deref.ensures.value ∙ c.in_ok-first.ensures.bytes clean;
    })
    (record {
      same = c.in_ok-second.ensures.seen;
      kept = c.in_ok-second.ensures.durable;
      crash = c.in_ok-second.ensures.crash;
      bytes = λ clean. c.deref-2.ensures.value ∙ c.in_ok-second.ensures.bytes clean;
    })
    c.open.new.self c.in-Ok.opened.1 c.carry_out.new.self c.in-Ok.opened.0 c.in-Ok.ensures.found
    (subst (λ log. IsCarriedOut g.K.Disk.seen g.K.Disk.may_leave g.K.Disk.is_usable g.K.Disk.is_clean
    g.K.Disk.is_mixing g.K.Disk.faults c.in-Ok.opened.1 log c.carry_out.new.self) c.turn.ensures
    c.in-Ok-carry_out.ensures.done)

pub returns-in-Ok-carry_out-clause-leaves : goal.returns-in-Ok-carry_out-clause-leaves
returns-in-Ok-carry_out-clause-leaves g c =
    opened_leaves g.K.Disk.seen g.K.Disk.may_leave g.K.Disk.is_usable g.K.Disk.is_clean
    g.K.Disk.is_mixing g.K.Disk.faults
    g.met.K.Disk.seen_may_stay c.args.self.now c.read_all.new.disk c.read_all-2.new.disk
    c.deref.result.now c.deref-2.result.now
    (record {
      same = c.in_ok-first.ensures.seen;
      kept = c.in_ok-first.ensures.durable;
      crash = c.in_ok-first.ensures.crash;
      bytes = λ clean. c.deref.ensures.value ∙ c.in_ok-first.ensures.bytes clean;
    })
    (record {
      same = c.in_ok-second.ensures.seen;
      kept = c.in_ok-second.ensures.durable;
      crash = c.in_ok-second.ensures.crash;
      bytes = λ clean. c.deref-2.ensures.value ∙ c.in_ok-second.ensures.bytes clean;
    })
    c.open.new.self c.in-Ok.opened.1 c.carry_out.new.self c.in-Ok.opened.0 c.in-Ok.ensures.found
    (subst (λ log. IsCarriedOut g.K.Disk.seen g.K.Disk.may_leave g.K.Disk.is_usable g.K.Disk.is_clean
    g.K.Disk.is_mixing g.K.Disk.faults c.in-Ok.opened.1 log c.carry_out.new.self) c.turn.ensures
    c.in-Ok-carry_out.ensures.done)

pub returns-in-Ok-carry_out-clause-opens : goal.returns-in-Ok-carry_out-clause-opens
returns-in-Ok-carry_out-clause-opens g c =
    λ bytes disk.
    opened_opens g.K.Disk.seen g.K.Disk.may_leave g.K.Disk.is_usable g.K.Disk.is_clean
    g.K.Disk.is_mixing g.K.Disk.faults
    g.met.K.Disk.seen_may_stay c.args.self.now c.read_all.new.disk c.read_all-2.new.disk
    c.deref.result.now c.deref-2.result.now
    (record {
      same = c.in_ok-first.ensures.seen;
      kept = c.in_ok-first.ensures.durable;
      crash = c.in_ok-first.ensures.crash;
      bytes = λ clean. c.deref.ensures.value ∙ c.in_ok-first.ensures.bytes clean;
    })
    (record {
      same = c.in_ok-second.ensures.seen;
      kept = c.in_ok-second.ensures.durable;
      crash = c.in_ok-second.ensures.crash;
      bytes = λ clean. c.deref-2.ensures.value ∙ c.in_ok-second.ensures.bytes clean;
    })
    c.open.new.self c.in-Ok.opened.1 c.carry_out.new.self c.in-Ok.opened.0 c.in-Ok.ensures.found
    (subst (λ log. IsCarriedOut g.K.Disk.seen g.K.Disk.may_leave g.K.Disk.is_usable g.K.Disk.is_clean
    g.K.Disk.is_mixing g.K.Disk.faults c.in-Ok.opened.1 log c.carry_out.new.self) c.turn.ensures
    c.in-Ok-carry_out.ensures.done)

pub returns-clause-leaves : goal.returns-clause-leaves
returns-clause-leaves g c =
    open_leaves g.K.Disk.seen g.K.Disk.may_leave g.K.Disk.is_usable g.K.Disk.is_clean
    g.K.Disk.is_mixing g.K.Disk.faults
    g.met.K.Disk.seen_may_stay c.args.self.now c.read_all.new.disk c.read_all-2.new.disk
    c.deref.result.now c.deref-2.result.now
    (record {
      same = c.in_ok-first.ensures.seen;
      kept = c.in_ok-first.ensures.durable;
      crash = c.in_ok-first.ensures.crash;
      bytes = λ clean. c.deref.ensures.value ∙ c.in_ok-first.ensures.bytes clean;
    })
    (record {
      same = c.in_ok-second.ensures.seen;
      kept = c.in_ok-second.ensures.durable;
      crash = c.in_ok-second.ensures.crash;
      bytes = λ clean. c.deref-2.ensures.value ∙ c.in_ok-second.ensures.bytes clean;
    })
    c.open.new.self c.in-Ok.opened.1 c.carry_out.new.self c.in-Ok.opened.0 c.in-Ok.ensures.found
    (subst (λ log. IsBegun g.K.Disk.seen g.K.Disk.may_leave g.K.Disk.is_usable g.K.Disk.is_clean
    g.K.Disk.is_mixing g.K.Disk.faults c.in-Ok.opened.1 log c.carry_out.new.self) c.turn.ensures
    c.in-Err-carry_out.ensures.begun)

pub returns-clause-opens : goal.returns-clause-opens
returns-clause-opens g c =
    λ bytes disk.
    open_opens g.K.Disk.seen g.K.Disk.may_leave g.K.Disk.is_usable g.K.Disk.is_clean
    g.K.Disk.is_mixing g.K.Disk.faults
    g.met.K.Disk.seen_may_stay c.args.self.now c.read_all.new.disk c.read_all-2.new.disk
    c.deref.result.now c.deref-2.result.now
    (record {
      same = c.in_ok-first.ensures.seen;
      kept = c.in_ok-first.ensures.durable;
      crash = c.in_ok-first.ensures.crash;
      bytes = λ clean. c.deref.ensures.value ∙ c.in_ok-first.ensures.bytes clean;
    })
    (record {
      same = c.in_ok-second.ensures.seen;
      kept = c.in_ok-second.ensures.durable;
      crash = c.in_ok-second.ensures.crash;
      bytes = λ clean. c.deref-2.ensures.value ∙ c.in_ok-second.ensures.bytes clean;
    })
    c.open.new.self c.in-Ok.opened.1 c.carry_out.new.self c.in-Ok.opened.0 c.in-Ok.ensures.found
    (subst (λ log. IsBegun g.K.Disk.seen g.K.Disk.may_leave g.K.Disk.is_usable g.K.Disk.is_clean
    g.K.Disk.is_mixing g.K.Disk.faults c.in-Ok.opened.1 log c.carry_out.new.self) c.turn.ensures
    c.in-Err-carry_out.ensures.begun)
