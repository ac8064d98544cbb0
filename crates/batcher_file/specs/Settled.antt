-- A log in two files, as it is between two calls, and what a crash leaves of it.
use Rattle.std.specs.Prelude.{◌≡◌, ◌<◌, ◌⊎◌, ℕ, Bool, IsTrue, List}
use Rattle.sqlite_disk.specs.Disk.{Only}
use Rattle.batcher_file.specs.Disks.{Finishes}
use Rattle.batcher_file.specs.Pairs.{AreAtRest, Hold, HoldNone, IsTornIntoTwo}
use Rattle.batcher_file.specs.declared.log.FileLog.{FileLog}

module _ {K : Type 0} (seen : K → List ℕ) (may_leave : K → List ℕ → Type 0)
    (is_usable is_clean : K → Bool) where
  -- Neither disk has told a lie.
  abbrev pub AreHonestDisks : FileLog K → Type 0
  AreHonestDisks log = IsTrue (is_clean log.current) × IsTrue (is_clean log.other)

  pub record IsSettled (log : FileLog K) : Type 0 where
    pub current_usable : IsTrue (is_usable log.current)
    pub other_usable : IsTrue (is_usable log.other)
    pub rest : AreHonestDisks log
        → AreAtRest seen may_leave log.current log.other log.files.bytes.items log.files.next
        log.files.end

  -- Both files are on the disk as they are, and hold these bytes.
  pub record IsSynced (log : FileLog K) (bytes : List ℕ) : Type 0 where
    pub current_kept : Only (seen log.current) (may_leave log.current)
    pub other_kept : Only (seen log.other) (may_leave log.other)
    pub hold : Hold (seen log.current) (seen log.other) bytes

  -- A crash may leave two files that hold these bytes.
  pub record MayLeave (log : FileLog K) (bytes : List ℕ) : Type 0 where
    pub current : List ℕ
    pub other : List ℕ
    pub current_left : may_leave log.current current
    pub other_left : may_leave log.other other
    pub hold : Hold current other bytes

  -- A crash may leave two files that hold nothing, though the disk finishes each byte that it
  -- begins, and no torn write made up two frames with the numbers that are due and right checksums.
  pub record MayLose (is_mixing : K → Bool) (log : FileLog K) : Type 0 where
    pub current : List ℕ
    pub other : List ℕ
    pub current_left : may_leave log.current current
    pub other_left : may_leave log.other other
    pub finishes : Finishes is_mixing
    pub current_torn : IsTornIntoTwo log.files.next current → ⊥
    pub none : HoldNone current other

  abbrev pub HasFailed : (K → ℕ) → FileLog K → Type 0
  HasFailed faults log = (0 < faults log.current) ⊎ (0 < faults log.other)

  -- What is there is found after a crash, and nothing else.
  pub rest_settled : (log : FileLog K) (left : List ℕ) → AreHonestDisks log → IsSettled log
      → MayLeave log left → left ≡ log.files.bytes.items
  rest_settled log left honest settled may =
      let rest = settled.rest honest in
      rest.no_others left (rw (
        ← rest.current_kept may.current may.current_left,
        ← rest.other_kept may.other may.other_left,
      ) may.hold)

  pub rest_stays : ((disk : K) → may_leave disk (seen disk)) → (log : FileLog K)
      → AreHonestDisks log
      → IsSettled log → MayLeave log log.files.bytes.items
  rest_stays stay log honest settled = record {
    current = seen log.current;
    other = seen log.other;
    current_left = stay log.current;
    other_left = stay log.other;
    hold = (settled.rest honest).hold;
  }

  pub rest_opens : (is_mixing : K → Bool) (log : FileLog K) → AreHonestDisks log → IsSettled log
      → MayLose is_mixing log → ⊥
  rest_opens is_mixing log honest settled lose =
      let rest = settled.rest honest in
      lose.none log.files.bytes.items (rw (
        rest.current_kept lose.current lose.current_left,
        rest.other_kept lose.other lose.other_left,
      ) rest.hold)
