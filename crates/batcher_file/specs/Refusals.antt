-- Why two files aren't opened.
use Rattle.std.specs.Prelude.{◌<◌, ◌^◌, ◌⊎◌, ℕ, true, false, List, length}
use Rattle.batcher_file.specs.Frames.{IsReadTo}
use Rattle.batcher_file.specs.Pairs.{HoldNone}
use Rattle.batcher_file.specs.declared.opening.OpenFault.{OpenFault}
use Rattle.batcher_file.specs.declared.opening.OpenFault.TheVariants.{Apart, Damaged, Empty, Failed}
use Rattle.batcher_file.specs.declared.opening.OpenFault.TheVariants.{OutOfMemory, Taken, TooLong}

-- what a fault shows of the files, once they are read: memory may be out, or they are at fault
abbrev pub FaultShows : Type 0 → OpenFault → Type 0
FaultShows Files OutOfMemory = Unit {0}
FaultShows Files Empty = Files
FaultShows Files (Damaged in_second at) = Files
FaultShows Files Apart = Files
FaultShows Files fault = ⊥

-- the frames before the damage are whole
abbrev pub IsWholeBefore : List ℕ → List ℕ → OpenFault → Type 0
IsWholeBefore a b (Damaged false at) = IsReadTo a at
IsWholeBefore a b (Damaged true at) = IsReadTo b at
IsWholeBefore a b fault = Unit {0}

-- why a file isn't read
abbrev pub IsOfReading : OpenFault → Type 0
IsOfReading OutOfMemory = Unit {0}
IsOfReading Failed = Unit {0}
IsOfReading TooLong = Unit {0}
IsOfReading fault = ⊥

-- why a log isn't made
abbrev pub IsOfMaking : OpenFault → Type 0
IsOfMaking Taken = Unit {0}
IsOfMaking fault = IsOfReading fault

-- why files aren't opened: but for memory and the disk, they hold nothing, or one is too long
abbrev pub IsUnopened : List ℕ → List ℕ → OpenFault → Type 0
IsUnopened a b OutOfMemory = Unit {0}
IsUnopened a b Failed = Unit {0}
IsUnopened a b Empty = HoldNone a b
IsUnopened a b (Damaged false at) = HoldNone a b × IsReadTo a at
IsUnopened a b (Damaged true at) = HoldNone a b × IsReadTo b at
IsUnopened a b Apart = HoldNone a b
IsUnopened a b TooLong = (2 ^ 42 < length a) ⊎ (2 ^ 42 < length b)
IsUnopened a b fault = ⊥
