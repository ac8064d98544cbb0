-- What comes of a plan, whoever carries it out.
use Rattle.std.specs.Prelude.{◌≡◌, ◌⊎◌, ℕ, Bool, List}
use Rattle.sqlite_disk.specs.Disk.{Only}
use Rattle.batcher_file.specs.Carrying.{IsBegun, IsCarriedOut}
use Rattle.batcher_file.specs.Pairs.{AreAtRest}
use Rattle.batcher_file.specs.Plans.{MakesFiles, Tidies}
use Rattle.batcher_file.specs.Settled.{AreHonestDisks, IsSettled, MayLeave, MayLose}
use Rattle.batcher_file.specs.declared.files.TwoFiles.{TwoFiles}
use Rattle.batcher_file.specs.declared.log.FileLog.{FileLog}
use Rattle.batcher_file.specs.declared.steps.Plan.{Plan}

module _ {K : Type 0} (seen : K → List ℕ) (may_leave : K → List ℕ → Type 0)
    (is_usable is_clean is_mixing : K → Bool) (faults : K → ℕ) where
  -- the disks as they were, and a plan for them
  abbrev pub planned : FileLog K → TwoFiles → FileLog K
  planned old files = record { files = files; current = old.current; other = old.other }

  -- Of plans that are made for some bytes: carried out, they come to a log. Where a step fails,
  -- or the power goes before all are done, what was there is left, or what is to be there, and
  -- that opens.
  pub record IsSafe (IsPlanned : TwoFiles → List ℕ → TwoFiles → Plan → Type 0)
      (after : List ℕ → List ℕ → List ℕ) (at_end : FileLog K → FileLog K) : Type 0 where
    pub settled : (old new : FileLog K) (bytes : List ℕ) (files : TwoFiles) (plan : Plan)
        → IsSettled seen may_leave is_usable is_clean old → IsPlanned old.files bytes files plan
        → IsCarriedOut seen may_leave is_usable is_clean is_mixing faults plan (planned old files)
        new
        → IsSettled seen may_leave is_usable is_clean (at_end new)
        × (new.files.bytes.items ≡ after old.files.bytes.items bytes)
    pub leaves : (old new : FileLog K) (bytes left : List ℕ) (files : TwoFiles) (plan : Plan)
        → IsSettled seen may_leave is_usable is_clean old → IsPlanned old.files bytes files plan
        → IsBegun seen may_leave is_usable is_clean is_mixing faults plan (planned old files) new
        → AreHonestDisks seen may_leave is_usable is_clean new
        → MayLeave seen may_leave is_usable is_clean new left
        → (left ≡ old.files.bytes.items) ⊎ (left ≡ after old.files.bytes.items bytes)
    pub opens : (old new : FileLog K) (bytes : List ℕ) (files : TwoFiles) (plan : Plan)
        → IsSettled seen may_leave is_usable is_clean old → IsPlanned old.files bytes files plan
        → IsBegun seen may_leave is_usable is_clean is_mixing faults plan (planned old files) new
        → AreHonestDisks seen may_leave is_usable is_clean new
        → MayLose seen may_leave is_usable is_clean is_mixing new → ⊥

  -- Of plans that tidy what was found: what was found is all that is left, at each moment.
  pub record IsTidySafe : Type 0 where
    pub settled : (log new : FileLog K) (plan : Plan)
        → Only (seen log.current) (may_leave log.current)
        → Only (seen log.other) (may_leave log.other)
        → Tidies (seen log.current) (seen log.other) plan log.files
        → IsCarriedOut seen may_leave is_usable is_clean is_mixing faults plan log new
        → AreAtRest seen may_leave new.current new.other new.files.bytes.items new.files.next
        new.files.end
    pub leaves : (log new : FileLog K) (plan : Plan) (left : List ℕ)
        → Only (seen log.current) (may_leave log.current)
        → Only (seen log.other) (may_leave log.other)
        → Tidies (seen log.current) (seen log.other) plan log.files
        → IsBegun seen may_leave is_usable is_clean is_mixing faults plan log new
        → MayLeave seen may_leave is_usable is_clean new left → left ≡ log.files.bytes.items
    pub opens : (log new : FileLog K) (plan : Plan)
        → Only (seen log.current) (may_leave log.current)
        → Only (seen log.other) (may_leave log.other)
        → Tidies (seen log.current) (seen log.other) plan log.files
        → IsBegun seen may_leave is_usable is_clean is_mixing faults plan log new
        → MayLose seen may_leave is_usable is_clean is_mixing new → ⊥

  -- Of plans that make a log: these bytes are all that is left, at each moment.
  pub record IsMakeSafe : Type 0 where
    pub settled : (log new : FileLog K) (bytes : List ℕ) (plan : Plan)
        → Only (seen log.current) (may_leave log.current)
        → Only (seen log.other) (may_leave log.other)
        → MakesFiles (seen log.current) (seen log.other) bytes log.files plan
        → IsCarriedOut seen may_leave is_usable is_clean is_mixing faults plan log new
        → AreAtRest seen may_leave new.current new.other new.files.bytes.items new.files.next
        new.files.end × (new.files.bytes.items ≡ bytes)
    pub leaves : (log new : FileLog K) (bytes left : List ℕ) (plan : Plan)
        → Only (seen log.current) (may_leave log.current)
        → Only (seen log.other) (may_leave log.other)
        → MakesFiles (seen log.current) (seen log.other) bytes log.files plan
        → IsBegun seen may_leave is_usable is_clean is_mixing faults plan log new
        → MayLeave seen may_leave is_usable is_clean new left → left ≡ bytes
