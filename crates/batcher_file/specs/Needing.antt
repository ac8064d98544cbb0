-- What plans need memory for.
use Rattle.std.specs.Prelude.{◌<◌, ◌≤◌, ◌+◌, ◌⊎◌, ℕ, List, length}
use Rattle.std.specs.Vec.{vec_capacity, vec_len}
use Rattle.batcher_file.specs.declared.files.TwoFiles.{TwoFiles}

-- There is no room yet for a frame of these bytes, with the gate behind it.
abbrev pub LacksFrame : TwoFiles → List ℕ → Type 0
LacksFrame old bytes = vec_capacity old.frame < length bytes + 33

-- Bytes are to be behind the others: for the frame, or for what is there then.
abbrev pub AddingNeeds : TwoFiles → List ℕ → Type 0
AddingNeeds old bytes =
    LacksFrame old bytes ⊎ (vec_capacity old.bytes < vec_len old.bytes + length bytes)

-- They are to be in the place of all others: for the frame, or for their copy.
abbrev pub ReplacingNeeds : TwoFiles → List ℕ → Type 0
ReplacingNeeds old bytes = LacksFrame old bytes ⊎ (1 ≤ length bytes)
