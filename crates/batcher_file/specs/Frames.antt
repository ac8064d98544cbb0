-- What is in a file of the log: frames, each behind a gate, which is a byte.
use Rattle.std.specs.Prelude.{◌≡◌, ◌+◌, ◌<◌, ◌^◌, ◌++◌, ℕ, List, [], ◌∷◌, Ok, length}
use Rattle.std.specs.List.{concat}
use Rattle.std.specs.Int.{w64}
use Rattle.batcher_bytes.specs.Format.{◌>>=◌, Format, fixed, number_bytes, pair, u64_format}
use Rattle.batcher_file.specs.Checksums.{sealed, sealed_format}

-- a gate that is open, and one that is closed
abbrev pub open_gate : ℕ
open_gate = 255

abbrev pub closed_gate : ℕ
closed_gate = 0

-- a frame's number, and how many bytes are in it
abbrev pub header : ℕ → ℕ → List ℕ
header number count = number_bytes w64 number ++ number_bytes w64 count

-- the header and the bytes, each with its checksum
abbrev pub frame : ℕ → List ℕ → List ℕ
frame number bytes = sealed (header number (length bytes)) ++ sealed bytes

abbrev pub frame_format : Format (ℕ × List ℕ)
frame_format = record {
  IsValue = λ it. (it.0 < 2 ^ 64) × (length it.1 < 2 ^ 64);
  encoding = λ it. frame it.0 it.1;
  decoding = λ bytes. (sealed_format (pair u64_format u64_format)).decoding bytes
      >>= λ head. (sealed_format (fixed head.0.1)).decoding head.1
      >>= λ body. Ok ((head.0.0, body.0), body.1);
}

-- frames behind open gates, numbered on from the first
abbrev pub frames : ℕ → List (List ℕ) → List ℕ
frames number [] = []
frames number (bytes ∷ more) = open_gate ∷ (frame number bytes ++ frames (number + 1) more)

abbrev pub AreFrames : ℕ → List (List ℕ) → Type 0
AreFrames number [] = Unit {0}
AreFrames number (bytes ∷ more) = frame_format.IsValue (number, bytes) × AreFrames (number + 1) more

-- bytes that begin with the frame of this number and inside
pub record IsFrame (number : ℕ) (inside after bytes : List ℕ) : Type 0 where
  pub value : frame_format.IsValue (number, inside)
  pub parts : bytes ≡ frame number inside ++ after

-- two frames with the numbers that are due, whatever the gate between them
pub record AreTwoFrames (number : ℕ) (bytes : List ℕ) : Type 0 where
  pub first : List ℕ
  pub second : List ℕ
  pub gate : ℕ
  pub middle : List ℕ
  pub after : List ℕ
  pub one : IsFrame number first (gate ∷ middle) bytes
  pub other : IsFrame (number + 1) second after middle

-- A file has these frames, and behind them a gate that is closed. What is behind that was never
-- part of the file, so that no two frames are there.
pub record HasFrames (number : ℕ) (all : List (List ℕ)) (file : List ℕ) : Type 0 where
  pub some : 0 < length all
  pub few : number + length all < 2 ^ 63
  pub values : AreFrames number all
  pub rest : List ℕ
  pub parts : file ≡ frames number all ++ closed_gate ∷ rest
  pub alone : AreTwoFrames (number + length all) rest → ⊥

-- what is found in a file: where its frames end, their bytes, and the numbers of the first of them
-- and of the next
pub record AreContents (file : List ℕ) (first next end : ℕ) (bytes : List ℕ) : Type 0 where
  pub all : List (List ℕ)
  pub has : HasFrames first all file
  pub next_is : next ≡ first + length all
  pub end_is : end ≡ length (frames first all)
  pub bytes_are : bytes ≡ concat all

-- The frames before this place are whole, and none with the number that is due is there.
pub record IsReadTo (file : List ℕ) (at : ℕ) : Type 0 where
  pub first : ℕ
  pub all : List (List ℕ)
  pub rest : List ℕ
  pub values : AreFrames first all
  pub parts : file ≡ frames first all ++ rest
  pub end : at ≡ length (frames first all)
  pub starts : (number : ℕ) (inside after more : List ℕ) → file ≡ open_gate ∷ more
      → IsFrame number inside after more → first ≡ number
  pub stops : first + length all < 2 ^ 63 → (inside after more : List ℕ)
      → rest ≡ open_gate ∷ more → IsFrame (first + length all) inside after more → ⊥

-- No frames that end can be read in it.
abbrev pub IsUnread : List ℕ → Type 0
IsUnread file = (first : ℕ) (all : List (List ℕ)) → HasFrames first all file → ⊥
