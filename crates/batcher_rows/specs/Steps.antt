-- The steps of a run.
use Rattle.std.specs.Prelude.{◌≡◌, ⊤}
use Rattle.batcher.specs.positions.Round.{Round}
use Rattle.batcher.specs.Votes.{round_in, subject_of}
use Rattle.batcher_rows.specs.declared.plan.Step.{Step}
use Rattle.batcher_rows.specs.declared.plan.Step.TheVariants.{Send, Construct}

-- A vote that is sent is of the round.
abbrev pub IsOfRound : {P : Type 0} → Round → Step P → Type 0
IsOfRound number (Send sender vote) = round_in (subject_of vote) ≡ number
IsOfRound number Construct = ⊤
