-- What the calls of two files that take turns do, and how their answers are written. What is said
-- of them are the words of `batcher_file`.
use Rattle.std.specs.Prelude.{◌≡◌, ◌≢◌, ◌==◌, ◌<◌, ◌≤◌, ◌-◌, ◌^◌, ◌⊎◌, ◌↔◌, ℕ, Bool, true}
use Rattle.std.specs.Prelude.{if◌then◌else◌, List, [], ◌∷◌, Option, Some, None, IfSome, IsSomeAnd}
use Rattle.std.specs.Prelude.{is_some, length}
use Rattle.std.specs.List.{slice_get}
use Rattle.batcher_file.specs.Disks.{IsBlank}
use Rattle.batcher_file.specs.Needing.{AddingNeeds, ReplacingNeeds}
use Rattle.batcher_file.specs.Pairs.{HoldNone}
use Rattle.batcher_file.specs.Plans.{IsAddition, MakesFiles, IsOpened, IsReplacement, SameBytes}
use Rattle.batcher_file.specs.Plans.{IsTaken}
use Rattle.batcher_file.specs.Refusals.{FaultShows}
use Rattle.batcher_file.specs.Steps.{steps}
use Rattle.batcher_file.specs.declared.files.TwoFiles.{TwoFiles}
use Rattle.batcher_file.specs.declared.opening.OpenFault.{OpenFault}
use Rattle.batcher_file.specs.declared.opening.OpenFault.TheVariants.{Empty, OutOfMemory, Taken}
use Rattle.batcher_file.specs.declared.steps.Plan.{Plan}
use Rattle.batcher_file.specs.declared.steps.Step.{Step}
use Rattle.batcher_file.specs.declared.steps.Step.TheVariants.{Byte, Frame, SetLen}
use Rattle.batcher_ffi.specs.declared.codes.TheConstants.{BEGUN, CHANGE_BYTE, CHANGE_FRAME}
use Rattle.batcher_ffi.specs.declared.codes.TheConstants.{CHANGE_LENGTH, DAMAGED, DONE, FULL, IDLE}
use Rattle.batcher_ffi.specs.declared.codes.TheConstants.{NOT_BEGUN, OUT_OF_MEMORY, UNFINISHED}
use Rattle.batcher_ffi.specs.declared.files.Files.{Files}
use Rattle.batcher_ffi.specs.declared.files.FlatChange.{FlatChange}
use Rattle.batcher_ffi.specs.Rounds.{is_one_of}

-- two files as C has them
abbrev pub CFiles : Type 0
CFiles = Files

-- the change that is written to C, and whether it is one of the file that isn't in use
abbrev pub change_in : FlatChange → Option (Bool × Step)
change_in flat =
    if flat.change == CHANGE_FRAME then Some (flat.in_other, Frame flat.at) else
    if flat.change == CHANGE_BYTE then Some (flat.in_other, Byte flat.at flat.byte) else
    if flat.change == CHANGE_LENGTH then Some (flat.in_other, SetLen flat.at) else None

-- why files aren't opened or made
abbrev pub fault_code : OpenFault → ℕ
fault_code OutOfMemory = OUT_OF_MEMORY
fault_code Empty = NOT_BEGUN
fault_code Taken = BEGUN
fault_code fault = DAMAGED

module _ (first second : List ℕ) where
  abbrev pub IsOpenedAs : Bool → Files → Type 0
  IsOpenedAs turned it = IsSomeAnd it.plan (λ plan. IsOpened first second turned plan it.files)

  abbrev pub WhyNotOpened : ℕ → Type 0
  WhyNotOpened code =
      (fault : OpenFault) × ((code ≡ fault_code fault) × FaultShows (HoldNone first second) fault)

  abbrev pub IsCreated : List ℕ → Files → Type 0
  IsCreated bytes it = IsSomeAnd it.plan (λ plan. MakesFiles first second bytes it.files plan)

  abbrev pub WhyNotCreated : ℕ → Type 0
  WhyNotCreated code =
      (fault : OpenFault) × ((code ≡ fault_code fault) × IsTaken first second fault)

-- What calls do that make files, to a handle: where they fail, it stays as it was. Memory may be
-- out only where something is there to be opened, or nothing is there, and something is to be made.
module _ (old new : Option Files) (code : ℕ) (first second : List ℕ) where
  pub record OpensFiles (was turned : Bool) : Type 0 where
    pub done : code ≡ DONE → IsSomeAnd new (IsOpenedAs first second turned)
    pub refused : code ≢ DONE → (code ≡ OUT_OF_MEMORY) ⊎ WhyNotOpened first second code
    pub empty : code ≡ NOT_BEGUN → IsBlank first × IsBlank second
    pub blank : IsBlank first → IsBlank second → code ≡ NOT_BEGUN
    pub stays : code ≢ DONE → (new ≡ old) × (turned ≡ was)

  pub record CreatesFiles (bytes : List ℕ) : Type 0 where
    pub done : code ≡ DONE → IsSomeAnd new (IsCreated first second bytes)
    pub refused : code ≢ DONE → (code ≡ OUT_OF_MEMORY) ⊎ WhyNotCreated first second code
    pub needed : code ≡ OUT_OF_MEMORY → IsBlank first × IsBlank second
    pub stays : code ≢ DONE → new ≡ old

-- The change of a number, of what is to be done.
pub record AsksChange (it : Files) (code number : ℕ) (old out : FlatChange) : Type 0 where
  pub codes : (code ≡ DONE) ⊎ (code ≡ IDLE)
  pub done : code ≡ DONE
      → IsSomeAnd it.plan (λ plan. change_in out ≡ slice_get (steps plan.job) number)
  pub none : code ≡ IDLE → IfSome it.plan (λ plan. slice_get (steps plan.job) number ≡ None)
  pub stays : code ≡ IDLE → out ≡ old

module _ (before : Files) (code : ℕ) (after : Files) where
  -- Bytes are to be written. What is to be done already is done first.
  pub record Plans (IsPlanned : TwoFiles → Plan → Type 0) (IsFull Needs : Type 0) : Type 0 where
    pub codes : is_one_of (DONE ∷ UNFINISHED ∷ FULL ∷ OUT_OF_MEMORY ∷ []) code ≡ true
    pub unfinished : (code ≡ UNFINISHED) ↔ (is_some before.plan ≡ true)
    pub done : code ≡ DONE → IsSomeAnd after.plan (IsPlanned after.files)
    pub full : code ≡ FULL → IsFull
    pub needed : code ≡ OUT_OF_MEMORY → Needs
    pub stays : code ≢ DONE → SameBytes before.files after.files × (after.plan ≡ before.plan)

  abbrev pub Appends : List ℕ → Type 0
  Appends bytes = Plans (IsAddition before.files bytes)
      ((2 ^ 63 - 2 ≤ before.files.next) ⊎ (2 ^ 40 < before.files.end) ⊎ (2 ^ 40 < length bytes))
      (AddingNeeds before.files bytes)

  abbrev pub Replaces : List ℕ → Type 0
  Replaces bytes = Plans (IsReplacement before.files bytes)
      ((2 ^ 63 - 2 ≤ before.files.next) ⊎ (2 ^ 40 < length bytes))
      (ReplacingNeeds before.files bytes)

  -- All is done that was to be.
  pub record CarriesOut : Type 0 where
    pub codes : (code ≡ DONE) ⊎ (code ≡ IDLE)
    pub idle : code ≡ IDLE → (before.plan ≡ None) × (after ≡ before)
    pub done : code ≡ DONE → IsSomeAnd before.plan (λ plan. (after.files.next ≡ plan.next)
        × (after.files.end ≡ plan.end))
    pub bytes : after.files.bytes.items ≡ before.files.bytes.items
    pub none : after.plan ≡ None
