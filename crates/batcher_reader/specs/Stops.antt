-- With which status a program stops.
use Rattle.std.specs.Prelude.{ℕ}
use Rattle.batcher_reader.specs.declared.input.Stop.{Stop}
use Rattle.batcher_reader.specs.declared.input.Stop.TheVariants.{Malformed, OutOfMemory, Input}
use Rattle.batcher_reader.specs.declared.input.Stop.TheVariants.{Output}

abbrev pub status_of : Stop → ℕ
status_of Malformed = 2
status_of OutOfMemory = 3
status_of Input = 4
status_of Output = 4
