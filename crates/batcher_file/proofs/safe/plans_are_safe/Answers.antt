use Rattle.batcher_file.proofs.Words.{◌∙◌}
use Rattle.batcher_file.proofs.Logs.{append_leaves, append_opens, append_settled, replace_leaves, replace_opens, replace_settled, tidy_leaves, tidy_loses}
use Rattle.batcher_file.proofs.Logs.{tidy_settled}
use Rattle.batcher_file.proofs.Making.{made_settled, making_leaves}
use Rattle.batcher_file.proofs.safe.plans_are_safe.Goals as goal

pub returns-clause-append : goal.returns-clause-append
returns-clause-append g c = record {
  settled = λ old new bytes files plan settled it ends. (
    append_settled g.K.Disk.seen g.K.Disk.may_leave g.K.Disk.is_usable g.K.Disk.is_clean g.K.Disk.is_mixing
        g.K.Disk.faults old settled bytes files plan new it ends,
    ends.bytes ∙ it.bytes_are,
  );
  leaves = λ old new bytes left files plan settled it begun honest may.
      append_leaves g.K.Disk.seen g.K.Disk.may_leave g.K.Disk.is_usable g.K.Disk.is_clean g.K.Disk.is_mixing
      g.K.Disk.faults old settled bytes files plan new it begun left honest may;
  opens = λ old new bytes files plan settled it begun honest lose.
      append_opens g.K.Disk.seen g.K.Disk.may_leave g.K.Disk.is_usable g.K.Disk.is_clean g.K.Disk.is_mixing
      g.K.Disk.faults old settled bytes files plan new it begun honest lose;
}

pub returns-clause-replace : goal.returns-clause-replace
returns-clause-replace g c = record {
  settled = λ old new bytes files plan settled it ends. (
    replace_settled g.K.Disk.seen g.K.Disk.may_leave g.K.Disk.is_usable g.K.Disk.is_clean g.K.Disk.is_mixing
        g.K.Disk.faults old settled bytes files plan new it ends,
    ends.bytes ∙ it.bytes_are,
  );
  leaves = λ old new bytes left files plan settled it begun honest may.
      replace_leaves g.K.Disk.seen g.K.Disk.may_leave g.K.Disk.is_usable g.K.Disk.is_clean g.K.Disk.is_mixing
      g.K.Disk.faults old settled bytes files plan new it begun left honest may;
  opens = λ old new bytes files plan settled it begun honest lose.
      replace_opens g.K.Disk.seen g.K.Disk.may_leave g.K.Disk.is_usable g.K.Disk.is_clean g.K.Disk.is_mixing
      g.K.Disk.faults old settled bytes files plan new it begun honest lose;
}

pub returns-clause-open : goal.returns-clause-open
returns-clause-open g c = record {
  settled = λ log new plan kept other_kept it ends.
      tidy_settled g.K.Disk.seen g.K.Disk.may_leave g.K.Disk.is_usable g.K.Disk.is_clean g.K.Disk.is_mixing
      g.K.Disk.faults log plan new kept other_kept it ends;
  leaves = λ log new plan left kept other_kept it begun may.
      tidy_leaves g.K.Disk.seen g.K.Disk.may_leave g.K.Disk.is_usable g.K.Disk.is_clean g.K.Disk.is_mixing
      g.K.Disk.faults log plan new kept other_kept it begun left may;
  opens = λ log new plan kept other_kept it begun lose.
      tidy_loses g.K.Disk.seen g.K.Disk.may_leave g.K.Disk.is_usable g.K.Disk.is_clean g.K.Disk.is_mixing
      g.K.Disk.faults log plan new kept other_kept it begun lose;
}

pub returns-clause-create : goal.returns-clause-create
returns-clause-create g c = record {
  settled = λ log new bytes plan kept other_kept it ends. (
    made_settled g.K.Disk.seen g.K.Disk.may_leave g.K.Disk.is_usable g.K.Disk.is_clean g.K.Disk.is_mixing
        g.K.Disk.faults bytes log plan new kept other_kept it ends,
    ends.bytes ∙ it.bytes_are,
  );
  leaves = λ log new bytes left plan kept other_kept it begun may.
      making_leaves g.K.Disk.seen g.K.Disk.may_leave g.K.Disk.is_usable g.K.Disk.is_clean g.K.Disk.is_mixing
      g.K.Disk.faults bytes log plan new kept other_kept it begun left may;
}
