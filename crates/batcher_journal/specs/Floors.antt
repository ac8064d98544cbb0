-- The floor of a journal: rounds before it are over, and what is of them is forgotten.
use Rattle.std.specs.Prelude.{◌&&◌, ◌||◌, Bool, not, nat_eq, nat_lt, List}
use Rattle.std.specs.List.{filter}
use Rattle.batcher_journal.specs.Records.{Certified}
use Rattle.batcher_types.specs.Votes.{round_in, subject_of}
use Rattle.batcher_types.specs.declared.messages.Vote.{Vote}
use Rattle.batcher_types.specs.declared.positions.Round.{Round}

-- whether a round is before the floor
abbrev pub is_below : Round → Round → Bool
is_below floor round =
    nat_lt round.epoch.0 floor.epoch.0
    || (nat_eq round.epoch.0 floor.epoch.0 && nat_lt round.view.0 floor.view.0)

module _ {G D : Type 0} (floor : Round) where
  abbrev pub is_over : Vote G D → Bool
  is_over vote = is_below floor (round_in (subject_of vote))

  -- the votes that a floor leaves
  abbrev pub from_floor : List (Vote G D) → List (Vote G D)
  from_floor votes = filter (λ vote. not (is_over vote)) votes

-- the certificates that it leaves
abbrev pub certified_from : Round → List Certified → List Certified
certified_from floor certificates = filter (λ it. not (is_below floor it.0)) certificates
