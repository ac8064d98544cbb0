-- What a plan is made for.
use Rattle.std.specs.Prelude.{◌≡◌, ◌<◌, ◌≤◌, ◌+◌, ◌-◌, ◌^◌, ◌⊎◌, ◌++◌, ◌∷◌, [], ℕ, Bool, true}
use Rattle.std.specs.Prelude.{false, List, length, min}
use Rattle.batcher_file.specs.Disks.{IsBlank}
use Rattle.batcher_file.specs.Frames.{closed_gate, frame}
use Rattle.batcher_file.specs.Pairs.{IsTidied}
use Rattle.batcher_file.specs.declared.files.TwoFiles.{TwoFiles}
use Rattle.batcher_file.specs.declared.opening.OpenFault.{OpenFault}
use Rattle.batcher_file.specs.declared.opening.OpenFault.TheVariants.{OutOfMemory, Taken}
use Rattle.batcher_file.specs.declared.steps.Job.TheVariants.{Add, Replace, Start, Tidy}
use Rattle.batcher_file.specs.declared.steps.Plan.{Plan}

-- bytes, and where they end, are as before
pub record SameBytes (old new : TwoFiles) : Type 0 where
  pub bytes : new.bytes.items ≡ old.bytes.items
  pub next : new.next ≡ old.next
  pub end : new.end ≡ old.end

-- So many frames were written, or so many bytes are there or are to be, that none more fit in.
abbrev pub IsFull : TwoFiles → List ℕ → Type 0
IsFull old bytes = (2 ^ 63 - 2 ≤ old.next) ⊎ (2 ^ 40 < old.end) ⊎ (2 ^ 40 < length bytes)

-- So many frames were written that there is none more, or so many bytes fit into none.
abbrev pub IsTooSmall : TwoFiles → List ℕ → Type 0
IsTooSmall old bytes = (2 ^ 63 - 2 ≤ old.next) ⊎ (2 ^ 40 < length bytes)

-- The next frame has these bytes.
pub record IsFramed (old : TwoFiles) (bytes : List ℕ) (new : TwoFiles) : Type 0 where
  pub few : old.next < 2 ^ 63 - 2
  pub short : length bytes ≤ 2 ^ 40
  pub frame_is : new.frame.items ≡ frame old.next bytes ++ closed_gate ∷ []
  pub next : new.next ≡ old.next
  pub end : new.end ≡ old.end

-- It is to be added.
pub record IsAddition (old : TwoFiles) (bytes : List ℕ) (new : TwoFiles) (plan : Plan)
    : Type 0 where
  pub framed : IsFramed old bytes new
  pub within : old.end ≤ 2 ^ 40
  pub bytes_are : new.bytes.items ≡ old.bytes.items ++ bytes
  pub job : plan.job ≡ Add old.end (old.end + 1)
  pub next_is : plan.next ≡ old.next + 1
  pub end_is : plan.end ≡ old.end + length new.frame.items

-- It is to be the only one.
pub record IsReplacement (old : TwoFiles) (bytes : List ℕ) (new : TwoFiles) (plan : Plan)
    : Type 0 where
  pub framed : IsFramed old bytes new
  pub bytes_are : new.bytes.items ≡ bytes
  pub job : plan.job ≡ Replace
  pub next_is : plan.next ≡ old.next + 1
  pub end_is : plan.end ≡ length new.frame.items

-- What was found in two files is to be all that is left there.
pub record Tidies (current other : List ℕ) (plan : Plan) (new : TwoFiles) : Type 0 where
  pub first : ℕ
  pub len : ℕ
  pub tidied : IsTidied current other first new.next new.end new.bytes.items len
  pub job : plan.job ≡ Tidy (new.end + 1) len
  pub next_is : plan.next ≡ new.next
  pub end_is : plan.end ≡ new.end

-- the same, and whether the second is the one in use
abbrev pub IsOpened : List ℕ → List ℕ → Bool → Plan → TwoFiles → Type 0
IsOpened a b false plan new = Tidies a b plan new
IsOpened a b true plan new = Tidies b a plan new

-- Two files that have nothing in them are to have these bytes.
pub record MakesFiles (first second bytes : List ℕ) (new : TwoFiles) (plan : Plan) : Type 0 where
  pub blank : IsBlank first
  pub second_blank : IsBlank second
  pub short : length bytes ≤ 2 ^ 40
  pub frame_is : new.frame.items ≡ frame 1 bytes ++ closed_gate ∷ []
  pub bytes_are : new.bytes.items ≡ bytes
  pub len : ℕ
  pub second_len : ℕ
  pub len_is : len ≡ min 1 (length first)
  pub second_len_is : second_len ≡ min 1 (length second)
  pub job : plan.job ≡ Start len second_len
  pub next_is : plan.next ≡ 2
  pub end_is : plan.end ≡ length new.frame.items

-- why it isn't made: memory may be out only where nothing is there
abbrev pub IsTaken : List ℕ → List ℕ → OpenFault → Type 0
IsTaken a b OutOfMemory = IsBlank a × IsBlank b
IsTaken a b Taken = IsBlank a × IsBlank b → ⊥
IsTaken a b fault = ⊥
