-- What is to be done to two files, one step after the other, and what it comes to.
use Rattle.std.specs.Prelude.{◌≡◌, ◌<◌, ◌+◌, ◌^◌, ◌⊎◌, ◌++◌, ◌∷◌, [], ℕ, Bool, true, false, List}
use Rattle.std.specs.Prelude.{IsTrue, drop, length, map}
use Rattle.sqlite_disk.specs.Disk.{Cut, Follows, Holds, Mixed, Only, Torn}
use Rattle.batcher_file.specs.Disks.{unused_gate}
use Rattle.batcher_file.specs.Frames.{open_gate}
use Rattle.batcher_file.specs.declared.steps.Job.{Job}
use Rattle.batcher_file.specs.declared.steps.Job.TheVariants.{Add, Replace, Start, Tidy}
use Rattle.batcher_file.specs.declared.steps.Step.{Step}
use Rattle.batcher_file.specs.declared.steps.Step.TheVariants.{Byte, Frame, SetLen}

-- the frame first, and then its gate is opened
abbrev pub add : ℕ → ℕ → List Step
add gate behind = Frame behind ∷ Byte gate open_gate ∷ []

-- a file is marked as one that isn't in use, and then emptied
abbrev pub retire : List Step
retire = Byte 0 unused_gate ∷ SetLen 1 ∷ []

abbrev pub renew : List Step
renew = retire ++ add 0 1

abbrev pub start_over : ℕ → List Step
start_over len = SetLen len ∷ renew

-- each step, and whether it is one of the other file
abbrev pub on : Bool → List Step → List (Bool × Step)
on is_other = map (λ step. (is_other, step))

abbrev pub steps : Job → List (Bool × Step)
steps (Add gate behind) = on false (add gate behind)
steps Replace = on true renew ++ on false retire
steps (Tidy len other_len) = on false (SetLen len ∷ []) ++ on true (SetLen other_len ∷ [])
steps (Start len other_len) = on true (SetLen other_len ∷ []) ++ on false (start_over len)

-- Of a disk: what steps have done to it. Behind each step it is synced.
module _ {K : Type 0} (seen : K → List ℕ) (may_leave : K → List ℕ → Type 0)
    (is_usable is_clean is_mixing : K → Bool) (faults : K → ℕ) (frame : List ℕ) where
  -- what a step makes of a file, or a crash inside it
  abbrev pub Touches : Step → List ℕ → List ℕ → Type 0
  Touches (Frame at) = Torn at (length frame)
  Touches (Byte at byte) = Torn at 1
  Touches (SetLen len) = Cut len

  -- the same, where the disk finishes each byte that it begins
  abbrev pub Mixes : Step → List ℕ → List ℕ → Type 0
  Mixes (Frame at) = Mixed at frame
  Mixes (Byte at byte) = Mixed at (byte ∷ [])
  Mixes (SetLen len) = Cut len

  -- its offsets are numbers of 64 bits
  abbrev pub IsAddressable : Step → Type 0
  IsAddressable (Frame at) = at + length frame < 2 ^ 64
  IsAddressable (Byte at byte) = at + 1 < 2 ^ 64
  IsAddressable (SetLen len) = Unit {0}

  -- what is there once it is done
  abbrev pub IsStepDone : Step → List ℕ → Type 0
  IsStepDone (Frame at) file = 0 < length frame → Holds file at frame
  IsStepDone (Byte at byte) file = Holds file at (byte ∷ [])
  IsStepDone (SetLen len) file = length file ≡ len

  -- a step was begun
  pub record IsTried (step : Step) (old new : K) : Type 0 where
    pub crash : Follows (Touches step) (may_leave old) (may_leave new)
    pub mixed : IsTrue (is_mixing old) → IsAddressable step
        → Follows (Mixes step) (may_leave old) (may_leave new)
    pub clean : IsTrue (is_clean new) → IsTrue (is_clean old)

  pub record IsFailed (step : Step) (old new : K) : Type 0 where
    pub tried : IsTried step old new
    pub failed : 0 < faults new

  -- all of it is on the disk
  pub record IsDone (step : Step) (old new : K) : Type 0 where
    pub tried : IsTried step old new
    pub touched : Touches step (seen old) (seen new)
    pub there : IsStepDone step (seen new)
    pub durable : Only (seen new) (may_leave new)
    pub usable : IsTrue (is_usable new)

  -- all of these steps are done, of the file in use and of the other
  abbrev pub AreDone : List (Bool × Step) → K → K → K → K → Type 0
  AreDone [] current other now_current now_other = (now_current ≡ current) × (now_other ≡ other)
  AreDone ((false, step) ∷ more) current other now_current now_other =
      (middle : K) × IsDone step current middle × AreDone more middle other now_current now_other
  AreDone ((true, step) ∷ more) current other now_current now_other =
      (middle : K) × IsDone step other middle × AreDone more current middle now_current now_other

  -- one of them has failed, and those before it are done
  abbrev pub AreBegun : List (Bool × Step) → K → K → K → K → Type 0
  AreBegun [] current other now_current now_other = ⊥
  AreBegun ((false, step) ∷ more) current other now_current now_other =
      (IsFailed step current now_current × (now_other ≡ other))
      ⊎ ((middle : K) × IsDone step current middle
      × AreBegun more middle other now_current now_other)
  AreBegun ((true, step) ∷ more) current other now_current now_other =
      (IsFailed step other now_other × (now_current ≡ current))
      ⊎ ((middle : K) × IsDone step other middle
      × AreBegun more current middle now_current now_other)

  -- The step of this number is done, if there is one. So what the steps behind it come to, from
  -- the disks as they are now, the steps from it on come to from the disks before it.
  pub record IsOneOn (all : List (Bool × Step)) (number : ℕ) (current other now now_other : K)
      : Type 0 where
    pub done : (a b : K) → AreDone (drop (number + 1) all) now now_other a b
        → AreDone (drop number all) current other a b
    pub begun : (a b : K) → AreBegun (drop (number + 1) all) now now_other a b
        → AreBegun (drop number all) current other a b
    pub usable : IsTrue (is_usable now)
    pub other_usable : IsTrue (is_usable now_other)
