-- The types that handles own, as the logic describes them.
use denote.RattleType.{RattleType}
use Rattle.batcher_verdicts.specs.contracts.any_round.AnyRound as round
use Rattle.batcher_ffi.specs.contracts.judging.JudgedValidator as validator
use Rattle.batcher_ffi.specs.contracts.caller.Caller as caller
use Rattle.batcher_ffi.specs.contracts.files.Files as files
use Rattle.batcher_ffi.specs.contracts.caller.CallerTruth.TheImpl.{ghosts}

abbrev pub round_row : RattleType
round_row = round.the_row caller.the_row ghosts

abbrev pub validator_row : RattleType
validator_row = validator.the_row

abbrev pub files_row : RattleType
files_row = files.the_row
