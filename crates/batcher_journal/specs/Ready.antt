-- A journal that is open.
use Rattle.std.specs.Prelude.{◌≡◌, ◌⊎◌, ◌++◌, ℕ, Bool, true, false, List, [], ◌∷◌, take}
use Rattle.batcher_types.specs.declared.messages.Vote.{Vote}
use Rattle.batcher_types.specs.declared.positions.Round.{Round}
use Rattle.batcher_bytes.specs.Format.{Format}
use Rattle.batcher_journal.specs.Answers.{MayBeWrittenBehind}
use Rattle.batcher_journal.specs.Floors.{certified_from, from_floor, is_below}
use Rattle.batcher_journal.specs.Records.{Certified, records_of, records_text}
use Rattle.batcher_journal.specs.Text.{Contents, IsText, OwnerFields}

-- What a journal has: a log, what is in it, the certificates that the next write puts there, and
-- whether it is open.
pub record JournalView (G D L : Type 0) : Type 0 where
  pub log : L
  pub contents : Contents G D
  pub unwritten : List Certified
  pub is_open : Bool

module _ {G D : Type 0} where
  -- a journal in which nothing was signed
  abbrev pub begun : OwnerFields → Round → List ℕ → Contents G D
  begun owner floor finalization = record {
    owner = owner;
    floor = floor;
    finalization = finalization;
    votes = [];
    certificates = [];
  }

  -- with the first certificates alone
  abbrev pub first_of : ℕ → Contents G D → Contents G D
  first_of count contents = record {
    owner = contents.owner;
    floor = contents.floor;
    finalization = contents.finalization;
    votes = contents.votes;
    certificates = take count contents.certificates;
  }

  -- these are behind its own
  abbrev pub with_more : Contents G D → List (Vote G D) → List Certified → Contents G D
  with_more old votes certificates = record {
    owner = old.owner;
    floor = old.floor;
    finalization = old.finalization;
    votes = old.votes ++ votes;
    certificates = old.certificates ++ certificates;
  }

  -- what a floor leaves of votes and certificates
  abbrev pub left_by_floor : OwnerFields → Round → List ℕ → List (Vote G D) → List Certified
      → Contents G D
  left_by_floor owner floor finalization votes certificates = record {
    owner = owner;
    floor = floor;
    finalization = finalization;
    votes = from_floor floor votes;
    certificates = certified_from floor certificates;
  }

  -- its floor is another, and what is of rounds before that is forgotten
  abbrev pub raised : Contents G D → List Certified → OwnerFields → Round → List ℕ → Contents G D
  raised old unwritten owner floor finalization =
      left_by_floor owner floor finalization old.votes (old.certificates ++ unwritten)

module _ {G D L : Type 0} (format : Format (Vote G D)) where
  -- These votes and certificates don't fit into a log, behind what is there.
  abbrev pub HasNoRoomFor : (L → List ℕ → Type 0) → L → List (Vote G D) → List Certified → Type 0
  HasNoRoomFor is_full log votes certificates =
      is_full log (records_text format (records_of votes certificates))

  -- The bytes of these contents don't fit into a log, in the place of what is there.
  pub record IsTooLongFor (is_too_small : L → List ℕ → Type 0) (log : L) (contents : Contents G D)
      : Type 0 where
    pub text : List ℕ
    pub is_text : IsText format text contents
    pub too_small : is_too_small log text

module _ {G D L : Type 0} (format : Format (Vote G D)) (same : D → D → Bool) where
  -- What is in the log is what is known, of which nothing is under way, and each
  -- vote was to be signed as it was written.
  pub record IsReady (is_settled : L → Type 0) (written : L → List ℕ) (log : L)
      (contents : Contents G D) : Type 0 where
    pub settled : is_settled log
    pub text : IsText format (written log) contents
    pub followed : MayBeWrittenBehind same contents.floor [] contents.votes

  -- what it has is on the disk, where nothing is under way
  abbrev pub IsOnDisk : (L → Type 0) → (L → List ℕ) → JournalView G D L → Type 0
  IsOnDisk is_settled written journal =
      is_settled journal.log × IsText format (written journal.log) journal.contents

  -- A crash leaves what was there, or that and these votes, which may follow.
  abbrev pub WriteLeaves : JournalView G D L → List (Vote G D) → List ℕ → Type 0
  WriteLeaves old votes left = IsText format left old.contents
      ⊎ (MayBeWrittenBehind same old.contents.floor old.contents.votes votes
      × IsText format left (with_more old.contents votes old.unwritten))

  -- A crash leaves what was there, or what a floor that isn't lower leaves of it.
  abbrev pub RaiseLeaves : JournalView G D L → OwnerFields → Round → List ℕ → List ℕ → Type 0
  RaiseLeaves old owner floor finalization left = IsText format left old.contents
      ⊎ ((is_below old.contents.floor floor ≡ false)
      × IsText format left (raised old.contents old.unwritten owner floor finalization))

module _ {G D L : Type 0} where
  -- what a journal has stays, but for its log
  pub record IsAsBefore (old new : JournalView G D L) : Type 0 where
    pub contents : new.contents ≡ old.contents
    pub unwritten : new.unwritten ≡ old.unwritten
    pub is_open : new.is_open ≡ old.is_open

  -- it has these contents, all of them written, and is open
  pub record HasContents (new : JournalView G D L) (contents : Contents G D) : Type 0 where
    pub contents_are : new.contents ≡ contents
    pub all_written : new.unwritten ≡ []
    pub is_open : new.is_open ≡ true

  -- one more certificate is to be written
  pub record Keeps (old new : JournalView G D L) (it : Certified) : Type 0 where
    pub log : new.log ≡ old.log
    pub contents : new.contents ≡ old.contents
    pub unwritten_are : new.unwritten ≡ old.unwritten ++ it ∷ []
    pub is_open : new.is_open ≡ old.is_open
