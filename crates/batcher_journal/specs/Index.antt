-- Where the votes of each round are.
use Rattle.std.specs.Prelude.{◌≡◌, ◌<◌, ◌≤◌, ℕ, false, List, All, length, slice_index_or}
use Rattle.batcher_types.specs.Votes.{round_in, subject_of}
use Rattle.batcher_types.specs.declared.messages.Vote.{Vote}
use Rattle.batcher_journal.specs.Floors.{is_below}
use Rattle.batcher_journal.specs.declared.indexed.Entry.{Entry}

-- no entry is of an earlier round than one before it
abbrev pub AreByRounds : List Entry → Type 0
AreByRounds index = (i j : ℕ) (d : Entry) → i ≤ j → j < length index
    → is_below (slice_index_or index i d).round (slice_index_or index j d).round ≡ false

module _ {G D : Type 0} (votes : List (Vote G D)) where
  -- an entry points to one of the first votes, and says of which round that is
  abbrev pub Points : ℕ → Entry → Type 0
  Points count entry = (entry.at < count)
      × ((d : Vote G D) → round_in (subject_of (slice_index_or votes entry.at d)) ≡ entry.round)

  -- An index is by rounds, its entries point to votes, and of as many votes as it has entries, the
  -- first, each has one.
  pub record IsIndex (index : List Entry) : Type 0 where
    pub by_rounds : AreByRounds index
    pub entries : All (Points (length index)) index
    pub covers : (i : ℕ) → i < length index
        → (k : ℕ) × (k < length index) × ((d : Entry) → (slice_index_or index k d).at ≡ i)
    pub within : length index ≤ length votes
