-- What the calls of a voter leave of its journal.
use Rattle.std.specs.Prelude.{◌≡◌, ◌⊎◌, ◌++◌, ℕ, true, false, List, [], ◌∷◌}
use Rattle.batcher.specs.Votes.{round_in, subject_certified}
use Rattle.batcher.specs.messages.Certificate.{Certificate}
use Rattle.batcher.specs.messages.Vote.{Vote}
use Rattle.batcher.specs.positions.Round.{Round}
use Rattle.batcher_bytes.specs.Format.{Format}
use Rattle.batcher_bytes.specs.Messages.{versioned}
use Rattle.batcher_journal.specs.Floors.{from_floor, is_below}
use Rattle.batcher_journal.specs.Ready.{IsTooLongFor, JournalView, raised}

module _ {G D L : Type 0} where
  -- What is open has the votes that it had, and this one may be behind them.
  abbrev pub MayGain : Vote G D → JournalView G D L → JournalView G D L → Type 0
  MayGain vote old new =
      new.is_open ≡ true → (old.is_open ≡ true) × ((new.contents.floor ≡ old.contents.floor)
      × ((new.contents.votes ≡ old.contents.votes)
      ⊎ (new.contents.votes ≡ old.contents.votes ++ vote ∷ [])))

  -- Its floor is this round, which isn't lower than it was, and it has the votes from there on.
  pub record IsRaised (floor : Round) (old new : JournalView G D L) : Type 0 where
    pub was_open : old.is_open ≡ true
    pub is_open : new.is_open ≡ true
    pub up : is_below old.contents.floor floor ≡ false
    pub floor_is : new.contents.floor ≡ floor
    pub votes : new.contents.votes ≡ from_floor floor old.contents.votes

-- What a journal is with this finalization for its floor doesn't fit into its log.
abbrev pub IsTooLongToFinalize : {G D C L : Type 0} → Format (Vote G D) → Format (Certificate C D)
    → (L → List ℕ → Type 0) → Certificate C D → JournalView G D L → Type 0
IsTooLongToFinalize votes certificates is_too_small c journal =
    IsTooLongFor votes is_too_small journal.log (raised journal.contents journal.unwritten
    journal.contents.owner (round_in (subject_certified c)) ((versioned certificates).encoding c))
