-- A log that is opened: what is read of its files, and what that comes to.
use Rattle.batcher_file.proofs.Words.{◌≡◌, ◌∙◌, ℕ, Bool, true, false, List, [], ◌∷◌, inl, inr, refl, subst, sym, IsTrue, Only, IsBegun, IsCarriedOut, put_first}
use Rattle.batcher_file.proofs.Words.{Hold, HoldNone, IsOpened, Tidies, IsUnopened, IsWholeBefore, FaultShows, AreHonestDisks, IsSynced, IsSettled, MayLeave}
use Rattle.batcher_file.proofs.Words.{MayLose, rest_opens, rest_settled, AreBegun, AreDone, steps, TwoFiles, FileLog, OpenFault, Apart, Damaged, Empty, Failed}
use Rattle.batcher_file.proofs.Words.{OutOfMemory, Taken, TooLong, Plan, Step}
use Rattle.batcher_file.proofs.Logs.{tidy_leaves, tidy_loses, tidy_settled}
use Rattle.batcher_file.proofs.Tidying.{tidied_hold}
use Rattle.batcher_file.proofs.Turns.{turned}

-- why two files aren't opened
pub refused : (a b : List ℕ) (fault : OpenFault) → FaultShows (HoldNone a b) fault
    → IsWholeBefore a b fault → IsUnopened a b fault
refused a b OutOfMemory shows whole = tt
refused a b Failed shows whole = tt
refused a b Empty shows whole = shows
refused a b Taken shows whole = absurd shows
refused a b (Damaged false at) shows whole = (shows, whole)
refused a b (Damaged true at) shows whole = (shows, whole)
refused a b Apart shows whole = shows
refused a b TooLong shows whole = absurd shows

module _ {K : Type 0} (seen : K → List ℕ) (may_leave : K → List ℕ → Type 0)
    (is_usable is_clean is_mixing : K → Bool) (faults : K → ℕ) where
  abbrev Settled : FileLog K → Type 0
  Settled = IsSettled seen may_leave is_usable is_clean

  abbrev Honest : FileLog K → Type 0
  Honest = AreHonestDisks seen may_leave is_usable is_clean

  abbrev Leaves : FileLog K → List ℕ → Type 0
  Leaves = MayLeave seen may_leave is_usable is_clean

  abbrev Loses : FileLog K → Type 0
  Loses = MayLose seen may_leave is_usable is_clean is_mixing

  abbrev Begins : Plan → FileLog K → FileLog K → Type 0
  Begins = IsBegun seen may_leave is_usable is_clean is_mixing faults

  abbrev Ends : Plan → FileLog K → FileLog K → Type 0
  Ends = IsCarriedOut seen may_leave is_usable is_clean is_mixing faults

  abbrev Clean : K → Type 0
  Clean disk = IsTrue (is_clean disk)

  -- What steps leave honest was honest.
  module _ (frame : List ℕ) where
    pub done_honest : (all : List (Bool × Step)) (a b c d : K)
        → AreDone seen may_leave is_usable is_clean is_mixing faults frame all a b c d
        → Clean c → Clean d → Clean a × Clean b
    done_honest [] a b c d it on_c on_d = (subst Clean it.0 on_c, subst Clean it.1 on_d)
    done_honest ((false, step) ∷ all) a b c d it on_c on_d =
        let rest = done_honest all it.0 b c d it.2 on_c on_d in
        (it.1.tried.clean rest.0, rest.1)
    done_honest ((true, step) ∷ all) a b c d it on_c on_d =
        let rest = done_honest all a it.0 c d it.2 on_c on_d in
        (rest.0, it.1.tried.clean rest.1)

    pub begun_honest : (all : List (Bool × Step)) (a b c d : K)
        → AreBegun seen may_leave is_usable is_clean is_mixing faults frame all a b c d
        → Clean c → Clean d → Clean a × Clean b
    begun_honest [] a b c d it on_c on_d = absurd it
    begun_honest ((false, step) ∷ all) a b c d (inl it) on_c on_d =
        (it.0.tried.clean on_c, subst Clean it.1 on_d)
    begun_honest ((false, step) ∷ all) a b c d (inr it) on_c on_d =
        let rest = begun_honest all it.0 b c d it.2 on_c on_d in
        (it.1.tried.clean rest.0, rest.1)
    begun_honest ((true, step) ∷ all) a b c d (inl it) on_c on_d =
        (subst Clean it.1 on_c, it.0.tried.clean on_d)
    begun_honest ((true, step) ∷ all) a b c d (inr it) on_c on_d =
        let rest = begun_honest all a it.0 c d it.2 on_c on_d in
        (rest.0, it.1.tried.clean rest.1)

  -- What was on the disk isn't lost by reading.
  pub lost_nothing : (old log : FileLog K) (bytes : List ℕ)
      → IsSynced seen may_leave is_usable is_clean old bytes
      → ((file : List ℕ) → may_leave log.current file → may_leave old.current file)
      → ((file : List ℕ) → may_leave log.other file → may_leave old.other file) → Loses log → ⊥
  lost_nothing old log bytes disk crash other_crash lose =
      lose.none bytes (rw (
        disk.current_kept lose.current (crash lose.current lose.current_left),
        disk.other_kept lose.other (other_crash lose.other lose.other_left),
      ) disk.hold)

  -- A file was read, all of it on the disk.
  pub record IsRead (old now : K) (file : List ℕ) : Type 0 where
    pub same : seen now ≡ seen old
    pub kept : Only (seen now) (may_leave now)
    pub crash : (left : List ℕ) → may_leave now left → may_leave old left
    pub bytes : Clean now → file ≡ seen old

  -- Both were.
  module _ (stay : (disk : K) → may_leave disk (seen disk)) (old : FileLog K) (first second : K)
      (a b : List ℕ) (read : IsRead old.current first a) (other_read : IsRead old.other second b)
      (files : TwoFiles) where
    abbrev planned : FileLog K
    planned = record { files = files; current = first; other = second }

    still_leaves : (bytes : List ℕ) → Hold (seen old.current) (seen old.other) bytes
        → Leaves old bytes
    still_leaves bytes hold = record {
      current = seen old.current;
      other = seen old.other;
      current_left = stay old.current;
      other_left = stay old.other;
      hold = hold;
    }

    module _ (plan : Plan) (new : FileLog K) where
      -- what is to be tidied, the one in use first
      tidies : (is_turned : Bool) → IsOpened a b is_turned plan files
          → Honest (put_first is_turned planned)
          → Tidies (seen (put_first is_turned planned).current)
          (seen (put_first is_turned planned).other) plan
          (put_first is_turned planned).files
      tidies false opened honest =
          rw (read.same, other_read.same, ← read.bytes honest.0, ← other_read.bytes honest.1) opened
      tidies true opened honest =
          rw (read.same, other_read.same, ← read.bytes honest.1, ← other_read.bytes honest.0) opened

      was_held : (is_turned : Bool) → IsOpened a b is_turned plan files
          → Honest (put_first is_turned planned)
          → Hold (seen old.current) (seen old.other) files.bytes.items
      was_held false opened honest =
          let it = opened.tidied in
          rw (← read.bytes honest.0, ← other_read.bytes honest.1)
          (tidied_hold opened.first files.next files.end opened.len files.bytes.items a b it)
      was_held true opened honest =
          let it = opened.tidied in
          rw (← read.bytes honest.1, ← other_read.bytes honest.0)
          (turned b a files.bytes.items (tidied_hold opened.first files.next files.end opened.len
          files.bytes.items b a it))

      kept_first : (is_turned : Bool)
          → Only (seen (put_first is_turned planned).current)
          (may_leave (put_first is_turned planned).current)
      kept_first false = read.kept
      kept_first true = other_read.kept

      kept_second : (is_turned : Bool)
          → Only (seen (put_first is_turned planned).other)
          (may_leave (put_first is_turned planned).other)
      kept_second false = other_read.kept
      kept_second true = read.kept

      bytes_same : (is_turned : Bool) → (put_first is_turned planned).files.bytes.items ≡
          files.bytes.items
      bytes_same false = refl
      bytes_same true = refl

      module _ (is_turned : Bool) (opened : IsOpened a b is_turned plan files) where
        abbrev turned_log : FileLog K
        turned_log = put_first is_turned planned

        begun_was_honest : Begins plan turned_log new → Honest new → Honest turned_log
        begun_was_honest begun honest =
            begun_honest turned_log.files.frame.items (steps plan.job) turned_log.current
            turned_log.other new.current
            new.other begun.begun honest.0 honest.1

        done_was_honest : Ends plan turned_log new → Honest new → Honest turned_log
        done_was_honest ends honest =
            done_honest turned_log.files.frame.items (steps plan.job) turned_log.current
            turned_log.other new.current
            new.other ends.done honest.0 honest.1

        pub open_leaves : Begins plan turned_log new → (left : List ℕ) → Honest new
            → Leaves new left → Leaves old left
        open_leaves begun left honest may =
            let was = begun_was_honest begun honest in
            let is : left ≡ files.bytes.items =
            tidy_leaves seen may_leave is_usable is_clean is_mixing faults turned_log plan new
            (kept_first is_turned)
            (kept_second is_turned) (tidies is_turned opened was) begun left may
            ∙ bytes_same is_turned in
            subst (Leaves old) (sym is) (still_leaves files.bytes.items
            (was_held is_turned opened was))

        pub open_opens : Begins plan turned_log new → Honest new → Loses new → ⊥
        open_opens begun honest lose =
            tidy_loses seen may_leave is_usable is_clean is_mixing faults turned_log plan new
            (kept_first is_turned)
            (kept_second is_turned) (tidies is_turned opened (begun_was_honest begun honest)) begun
            lose

        pub open_settled : Ends plan turned_log new → Settled new
        open_settled ends = record {
          current_usable = ends.usable;
          other_usable = ends.other_usable;
          rest = λ honest.
              tidy_settled seen may_leave is_usable is_clean is_mixing faults turned_log plan new
              (kept_first is_turned)
              (kept_second is_turned) (tidies is_turned opened (done_was_honest ends honest)) ends;
        }

        pub open_found : Ends plan turned_log new → Honest new
            → Hold (seen old.current) (seen old.other) new.files.bytes.items
        open_found ends honest =
            rw (ends.bytes, bytes_same is_turned)
            (was_held is_turned opened (done_was_honest ends honest))

        pub opened_leaves : Ends plan turned_log new → (left : List ℕ) → Honest new
            → Leaves new left → Leaves old left
        opened_leaves ends left honest may =
            let is : left ≡ new.files.bytes.items =
            rest_settled seen may_leave is_usable is_clean new left honest (open_settled ends) may
            in
            subst (Leaves old) (sym is) (still_leaves new.files.bytes.items
            (open_found ends honest))

        pub opened_opens : Ends plan turned_log new → Honest new → Loses new → ⊥
        opened_opens ends honest lose =
            rest_opens seen may_leave is_usable is_clean is_mixing new honest (open_settled ends)
            lose
