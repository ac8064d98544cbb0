-- Which commands fit a round.
use Rattle.std.specs.Prelude.{ℕ, Bool, true, false, nat_lt, List, [], ◌∷◌, Option, Some, None}
use Rattle.std.specs.List.{list_all}
use Rattle.batcher_reader.specs.declared.script.Command.{Command}
use Rattle.batcher_reader.specs.declared.script.Command.TheVariants.{Network, Own, Certificate}
use Rattle.batcher_reader.specs.declared.script.Command.TheVariants.{Leader, Construct, Forward}
use Rattle.batcher_reader.specs.declared.script.Command.TheVariants.{Missing}

-- whether an own vote is of one of so many participants
abbrev pub is_signer_among : ℕ → Command → Bool
is_signer_among n (Own signer ballot) = nat_lt signer n
is_signer_among n (Network sender signer ballot signature) = true
is_signer_among n (Certificate ballot) = true
is_signer_among n (Leader index) = true
is_signer_among n Construct = true
is_signer_among n (Forward index) = true
is_signer_among n (Missing byte) = true

-- whether own votes are of the participants of the first line, before which there is no command
abbrev pub are_among : Option ℕ → List Command → Bool
are_among None [] = true
are_among None (command ∷ commands) = false
are_among (Some n) commands = list_all (is_signer_among n) commands
