-- Lives of a validator with a journal: what it asks and writes, floors, errors, crashes, restarts.
use Rattle.std.specs.Prelude.{◌≡◌, ◌⊎◌, ◌++◌, Bool, true, false, List, [], ◌∷◌, All, Contains}
use Rattle.batcher_types.specs.declared.messages.Subject.{Subject}
use Rattle.batcher_types.specs.declared.messages.Vote.{Vote}
use Rattle.batcher_types.specs.declared.positions.Round.{Round}
use Rattle.batcher_journal.specs.Answers.{Answers, MayBeWrittenBehind}
use Rattle.batcher_journal.specs.Contradictions.{AreCompatible, AreSignedOnce}
use Rattle.batcher_journal.specs.Floors.{from_floor, is_below, is_over}
use Rattle.batcher_journal.specs.declared.journal.Answer.{Answer}
use Rattle.batcher_journal.specs.declared.journal.Answer.TheVariants.{Known}

pub data JournalEvent (G D : Type 0) : Type 0 where
  -- A subject is asked about. A vote that is known is handed out to be sent again.
  Asks : (subject : Subject D) (answer : Answer G D) → JournalEvent G D
  -- Votes are written, and are handed out to be sent.
  Writes : (votes : List (Vote G D)) → JournalEvent G D
  -- The power goes while votes are written, or the disk fails.
  Breaks : (votes : List (Vote G D)) → JournalEvent G D
  -- The floor is raised, perhaps with an epoch of other keys.
  Raises : (floor : Round) → JournalEvent G D
  -- The power goes while the floor is raised, or the disk fails.
  BreaksRaising : (floor : Round) → JournalEvent G D
  -- The power goes between two calls, or the program ends.
  Crashes : JournalEvent G D
  -- The journal is opened.
  Opens : JournalEvent G D

pub record World (G D : Type 0) : Type 0 where
  -- what outlives a crash: the floor, and the votes from there on
  pub floor : Round
  pub disk : List (Vote G D)
  pub is_open : Bool
  -- each vote that was ever handed out to be sent
  pub handed : List (Vote G D)

-- The votes that were handed out, after an answer.
abbrev pub handed_after : {G D : Type 0} → Answer G D → List (Vote G D) → List (Vote G D)
handed_after (Known vote) handed = handed ++ vote ∷ []
handed_after answer handed = handed

module _ {G D : Type 0} (same : D → D → Bool) where
  abbrev IsRaisedTo : World G D → Round → World G D → Type 0
  IsRaisedTo old floor new = (is_below old.floor floor ≡ false) × (new.floor ≡ floor)
      × (new.disk ≡ from_floor floor old.disk)

  abbrev HasMore : World G D → List (Vote G D) → World G D → Type 0
  HasMore old votes new = MayBeWrittenBehind same old.floor old.disk votes × (new.floor ≡ old.floor)
      × (new.disk ≡ old.disk ++ votes)

  abbrev Stays : World G D → World G D → Type 0
  Stays old new = (new.floor ≡ old.floor) × (new.disk ≡ old.disk)

  -- one event
  abbrev pub Step : World G D → JournalEvent G D → World G D → Type 0
  Step old (Asks subject answer) new =
      Answers same old.floor old.is_open old.disk subject answer × Stays old new
      × (new.is_open ≡ old.is_open) × (new.handed ≡ handed_after answer old.handed)
  Step old (Writes votes) new =
      (old.is_open ≡ true) × HasMore old votes new × (new.is_open ≡ true)
      × (new.handed ≡ old.handed ++ votes)
  Step old (Breaks votes) new =
      (old.is_open ≡ true) × (Stays old new ⊎ HasMore old votes new) × (new.is_open ≡ false)
      × (new.handed ≡ old.handed)
  Step old (Raises floor) new =
      (old.is_open ≡ true) × IsRaisedTo old floor new × (new.is_open ≡ true)
      × (new.handed ≡ old.handed)
  Step old (BreaksRaising floor) new =
      (old.is_open ≡ true) × (Stays old new ⊎ IsRaisedTo old floor new) × (new.is_open ≡ false)
      × (new.handed ≡ old.handed)
  Step old Crashes new = Stays old new × (new.is_open ≡ false) × (new.handed ≡ old.handed)
  Step old Opens new = Stays old new × (new.is_open ≡ true) × (new.handed ≡ old.handed)

  -- one event after another
  abbrev pub JournalLife : World G D → List (JournalEvent G D) → World G D → Type 0
  JournalLife old [] new = new ≡ old
  JournalLife old (event ∷ events) new =
      (middle : World G D) × Step old event middle × JournalLife middle events new

-- on the disk, or of a round that is over
abbrev pub IsKept : {G D : Type 0} → Round → List (Vote G D) → Vote G D → Type 0
IsKept floor disk vote = Contains disk vote ⊎ (is_over floor vote ≡ true)

-- Over any life that begins with no votes, no two votes that were handed out contradict each other,
-- none of one subject has two signatures, and each is on the disk, unless its round is over.
abbrev pub NeverContradicts : (G : Type 0) {D : Type 0} → (D → D → Bool) → Type 0
NeverContradicts G {D} same =
    (events : List (JournalEvent G D)) (start end : World G D) → start.disk ≡ [] → start.handed ≡ []
    → JournalLife same start events end
    → AreCompatible same end.handed × AreSignedOnce same end.handed
    × All (IsKept end.floor end.disk) end.handed
