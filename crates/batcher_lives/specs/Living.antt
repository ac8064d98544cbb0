-- In the middle of a life: what the calls so far have come to, as events.
use Rattle.std.specs.Prelude.{◌≡◌, ℕ, Bool, true, false, List, []}
use Rattle.batcher_bytes.specs.Format.{Format}
use Rattle.batcher_journal.specs.Lives.{JournalEvent, JournalLife, World}
use Rattle.batcher_journal.specs.Ready.{JournalView}
use Rattle.batcher_journal.specs.Text.{Contents, IsText}
use Rattle.batcher_types.specs.declared.messages.Vote.{Vote}
use Rattle.batcher_types.specs.declared.positions.Round.{Round}
use Rattle.batcher_lives.specs.declared.deeds.Place.{Place}
use Rattle.batcher_lives.specs.declared.deeds.Place.TheVariants.{Open, Shut}

module _ {G D : Type 0} (same : D → D → Bool) (first : Round) where
  abbrev pub world : List (Vote G D) → Bool → Round → List (Vote G D) → World G D
  world handed is_open floor disk = record {
    floor = floor;
    disk = disk;
    is_open = is_open;
    handed = handed;
  }

  -- a journal that was just begun
  abbrev pub just_begun : World G D
  just_begun = world [] true first []

  -- Some events lead there.
  pub record IsReached (handed : List (Vote G D)) (is_open : Bool) (floor : Round)
      (disk : List (Vote G D)) : Type 0 where
    pub events : List (JournalEvent G D)
    pub life : JournalLife same just_begun events (world handed is_open floor disk)

  -- Some events lead to these votes that were handed out.
  pub record IsSomewhere (handed : List (Vote G D)) : Type 0 where
    pub is_open : Bool
    pub floor : Round
    pub disk : List (Vote G D)
    pub reached : IsReached handed is_open floor disk

module _ {G D L : Type 0} (format : Format (Vote G D)) (same : D → D → Bool)
    (is_honest : L → Type 0) (may_leave : L → List ℕ → Type 0) (first : Round) where
  -- They lead to what was handed out, and to each journal that may be found in the log.
  pub record IsShut (log : L) (handed : List (Vote G D)) : Type 0 where
    pub somewhere : is_honest log → IsSomewhere same first handed
    pub leaves : is_honest log → (left : List ℕ) → may_leave log left
        → (contents : Contents G D) → IsText format left contents
        → IsReached same first handed false contents.floor contents.votes

  -- They lead to the journal that is open.
  pub record LeadsToOpen (journal : JournalView G D L) (handed : List (Vote G D)) : Type 0 where
    pub reached : journal.is_open ≡ true → is_honest journal.log
        → IsReached same first handed true journal.contents.floor journal.contents.votes
    pub closed : journal.is_open ≡ false → IsShut journal.log handed

  abbrev pub IsLived : Place G D L → List (Vote G D) → Type 0
  IsLived (Open journal) handed = LeadsToOpen journal handed
  IsLived (Shut log) handed = IsShut log handed
