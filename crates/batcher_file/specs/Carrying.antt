-- A plan of a log that is carried out.
use Rattle.std.specs.Prelude.{◌≡◌, ℕ, Bool, false, true, IsTrue, List}
use Rattle.batcher_file.specs.Steps.{AreBegun, AreDone, steps}
use Rattle.batcher_file.specs.declared.log.FileLog.{FileLog}
use Rattle.batcher_file.specs.declared.steps.Plan.{Plan}

-- the log with the other file first
abbrev pub put_first : {K : Type 0} → Bool → FileLog K → FileLog K
put_first false log = log
put_first true log =
    record { files = log.files; current = log.other; other = log.current }

module _ {K : Type 0} (seen : K → List ℕ) (may_leave : K → List ℕ → Type 0)
    (is_usable is_clean is_mixing : K → Bool) (faults : K → ℕ) (plan : Plan) (old new : FileLog K)
  where
    pub record IsCarriedOut : Type 0 where
      pub done : AreDone seen may_leave is_usable is_clean is_mixing faults old.files.frame.items
          (steps plan.job) old.current old.other new.current new.other
      pub usable : IsTrue (is_usable new.current)
      pub other_usable : IsTrue (is_usable new.other)
      pub bytes : new.files.bytes.items ≡ old.files.bytes.items
      pub next : new.files.next ≡ plan.next
      pub end : new.files.end ≡ plan.end

    -- Some of it is done, and a disk has failed.
    pub record IsBegun : Type 0 where
      pub begun : AreBegun seen may_leave is_usable is_clean is_mixing faults old.files.frame.items
          (steps plan.job) old.current old.other new.current new.other
      pub files : new.files ≡ old.files
