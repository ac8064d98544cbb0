-- A file on a disk, and what a crash leaves of it while a frame is added.
use Rattle.std.specs.Prelude.{◌≡◌, ◌≤◌, ◌⊎◌, ◌++◌, ℕ, Bool, List, [], ◌∷◌, IsTrue, length}
use Rattle.sqlite_disk.specs.Disk.{Only}
use Rattle.batcher_file.specs.Frames.{open_gate}

-- the file is this, all of it on the disk
pub record IsSyncedAs {K : Type 0} (seen : K → List ℕ) (may_leave : K → List ℕ → Type 0) (disk : K)
    (file : List ℕ) : Type 0 where
  pub same : seen disk ≡ file
  pub durable : Only (seen disk) (may_leave disk)

-- The disk finishes each byte that it begins: of a write that is torn, each is the old or the new.
abbrev pub Finishes : {K : Type 0} → (K → Bool) → Type 0
Finishes {K} is_mixing = (disk : K) → IsTrue (is_mixing disk)

-- the gate is as it was, and behind it is no more than a frame has
pub record IsBeforeGate (front : List ℕ) (gate : ℕ) (frame file : List ℕ) : Type 0 where
  pub rest : List ℕ
  pub parts : file ≡ front ++ gate ∷ rest
  pub short : length rest ≤ length frame

-- The gate is being written, from what it was to what it is to be, and what is behind it is there.
pub record IsAtGate (Whole : Type 0) (front : List ℕ) (was is : ℕ) (behind file : List ℕ)
    : Type 0 where
  pub now : ℕ
  pub parts : file ≡ front ++ now ∷ behind
  pub either : Whole → (now ≡ was) ⊎ (now ≡ is)

-- while a frame is added
abbrev pub MayHave : Type 0 → List ℕ → ℕ → List ℕ → List ℕ → Type 0
MayHave Whole front gate frame file =
    IsBeforeGate front gate frame file ⊎ IsAtGate Whole front gate open_gate frame file

-- the first gate of a file that isn't in use
abbrev pub unused_gate : ℕ
unused_gate = 15

pub record IsUnused (file : List ℕ) : Type 0 where
  pub rest : List ℕ
  pub parts : file ≡ unused_gate ∷ rest

-- a file without anything in it
abbrev pub IsBlank : List ℕ → Type 0
IsBlank file = (length file ≤ 1) ⊎ IsUnused file

-- while the first gate is written so that the file isn't in use
pub record IsShutting (Whole : Type 0) (old file : List ℕ) : Type 0 where
  pub gate : ℕ
  pub rest : List ℕ
  pub old_is : old ≡ gate ∷ rest
  pub now : IsAtGate Whole [] gate unused_gate rest file

-- while a file is emptied, so that it isn't in use
abbrev pub MayRetire : Type 0 → List ℕ → List ℕ → Type 0
MayRetire Whole old file = IsBlank file ⊎ IsShutting Whole old file

-- while a file is made anew with one frame
abbrev pub MayBe : Type 0 → List ℕ → List ℕ → List ℕ → Type 0
MayBe Whole old frame file =
    IsBlank file ⊎ IsShutting Whole old file ⊎ IsAtGate Whole [] unused_gate open_gate frame file

-- while a file that has nothing in it is made anew
abbrev pub MayStart : Type 0 → List ℕ → List ℕ → Type 0
MayStart Whole frame file = IsBlank file ⊎ IsAtGate Whole [] unused_gate open_gate frame file
