-- The texts of a mode, and of what came of recording a vote.
use Rattle.std.specs.Prelude.{ℕ, true, false, List, codes}
use Rattle.batcher_votes.specs.declared.votes.Mode.{Mode}
use Rattle.batcher_votes.specs.declared.votes.Mode.TheVariants.{Retaining, Releasing, Skipped}
use Rattle.batcher_votes.specs.declared.votes.Outcome.{Outcome}
use Rattle.batcher_votes.specs.declared.votes.Outcome.TheVariants.{Added, Duplicate, Conflicting}

abbrev pub mode_text : Mode → List ℕ
mode_text Retaining = codes "retaining"
mode_text Releasing = codes "releasing"
mode_text Skipped = codes "skipped"

abbrev pub outcome_text : Outcome → List ℕ
outcome_text (Added true) = codes "added retained"
outcome_text (Added false) = codes "added compact"
outcome_text (Duplicate true) = codes "duplicate retained"
outcome_text (Duplicate false) = codes "duplicate compact"
outcome_text Conflicting = codes "conflicting"
