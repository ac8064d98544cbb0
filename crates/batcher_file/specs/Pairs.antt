-- What is in two files that take turns: one is in use, and the other was before it.
use Rattle.std.specs.Prelude.{◌≡◌, ◌≤◌, ◌+◌, ◌⊎◌, ◌++◌, ◌∷◌, [], ℕ, Bool, true, false, List, length}
use Rattle.std.specs.Prelude.{min}
use Rattle.std.specs.List.{concat}
use Rattle.sqlite_disk.specs.Disk.{Only}
use Rattle.batcher_file.specs.Disks.{IsBlank}
use Rattle.batcher_file.specs.Frames.{AreContents, AreTwoFrames, HasFrames, closed_gate, frames}

-- a file whose frames end where those from this number on begin
pub record IsOlder (first : ℕ) (file : List ℕ) : Type 0 where
  pub number : ℕ
  pub all : List (List ℕ)
  pub has : HasFrames number all file
  pub next : number + length all ≡ first

abbrev pub IsOther : ℕ → List ℕ → Type 0
IsOther first file = IsBlank file ⊎ IsOlder first file

-- The first file has these bytes, and the other is blank or older.
pub record AreCurrent (current other bytes : List ℕ) : Type 0 where
  pub first : ℕ
  pub all : List (List ℕ)
  pub has : HasFrames first all current
  pub other_is : IsOther first other
  pub bytes_are : bytes ≡ concat all

-- Two files have these bytes.
abbrev pub Hold : List ℕ → List ℕ → List ℕ → Type 0
Hold a b bytes = AreCurrent a b bytes ⊎ AreCurrent b a bytes

-- Two files that hold something, so that they can be opened.
pub record CanBeOpened (a b : List ℕ) : Type 0 where
  pub bytes : List ℕ
  pub hold : Hold a b bytes

-- A write that was torn left two frames behind a closed gate, each with its checksums and the
-- number that was due. Such a file is taken for a damaged one.
pub record IsTornIntoTwo (next : ℕ) (file : List ℕ) : Type 0 where
  pub front : List ℕ
  pub rest : List ℕ
  pub parts : file ≡ front ++ closed_gate ∷ rest
  pub two : AreTwoFrames next rest

-- Both files as they are between two calls: they hold these bytes, and no others can be read there.
-- The last two follow from the rest, and are here for what a log says of crashes (`rest_settled`).
pub record AreAtRest {K : Type 0} (seen : K → List ℕ) (may_leave : K → List ℕ → Type 0)
    (current other : K) (bytes : List ℕ) (next end : ℕ) : Type 0 where
  pub first : ℕ
  pub all : List (List ℕ)
  pub has : HasFrames first all (seen current)
  pub parts : seen current ≡ frames first all ++ closed_gate ∷ []
  pub current_kept : Only (seen current) (may_leave current)
  pub short : (length (seen other) ≤ 1) ⊎ IsOlder first (seen other)
  pub other_kept : Only (seen other) (may_leave other)
  pub next_is : next ≡ first + length all
  pub end_is : end ≡ length (frames first all)
  pub bytes_are : bytes ≡ concat all
  pub hold : Hold (seen current) (seen other) bytes
  pub no_others : (found : List ℕ) → Hold (seen current) (seen other) found → found ≡ bytes

-- What is found as two files are opened, and whether the second is the one in use.
abbrev pub IsFound : List ℕ → List ℕ → Bool → ℕ → ℕ → ℕ → List ℕ → Type 0
IsFound a b false first next end bytes = AreContents a first next end bytes × IsOther first b
IsFound a b true first next end bytes = AreContents b first next end bytes × IsOther first a

-- no bytes are held by these files
abbrev pub HoldNone : List ℕ → List ℕ → Type 0
HoldNone a b = (bytes : List ℕ) → Hold a b bytes → ⊥

-- what is to be left of two files as they are opened: of the one in use all up to its closed gate,
-- and of the other so many bytes, one at most where it is blank
pub record IsTidied (current other : List ℕ) (first next end : ℕ) (bytes : List ℕ) (len : ℕ)
    : Type 0 where
  pub contents : AreContents current first next end bytes
  pub either : (IsBlank other × (len ≡ min 1 (length other)))
      ⊎ (IsOlder first other × (len ≡ length other))

-- Two files hold one thing at most.
abbrev pub HoldOne : Type 0
HoldOne = (a b x y : List ℕ) → Hold a b x → Hold a b y → x ≡ y
