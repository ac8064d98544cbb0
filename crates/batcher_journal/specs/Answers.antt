-- What a journal answers, by the votes that it has.
use Rattle.std.specs.Prelude.{◌≡◌, ◌<◌, ◌++◌, ℕ, Bool, true, false, List, Contains, length}
use Rattle.std.specs.Prelude.{slice_index_or, take}
use Rattle.batcher_types.specs.Votes.{round_in, same_subject, subject_of}
use Rattle.batcher_types.specs.declared.messages.Subject.{Subject}
use Rattle.batcher_types.specs.declared.messages.Vote.{Vote}
use Rattle.batcher_types.specs.declared.positions.Round.{Round}
use Rattle.batcher.specs.Reports.{subjects_contradict}
use Rattle.batcher_journal.specs.Contradictions.{IsFree}
use Rattle.batcher_journal.specs.Floors.{is_below, is_over}
use Rattle.batcher_journal.specs.declared.journal.Answer.{Answer}
use Rattle.batcher_journal.specs.declared.journal.Answer.TheVariants.{Closed, Known, Over, Refused}
use Rattle.batcher_journal.specs.declared.journal.Answer.TheVariants.{Sign}

module _ {G D : Type 0} (same : D → D → Bool) (floor : Round) where
  -- Of a subject: it is to be signed just where its round isn't over, no vote is for it and none
  -- contradicts it. Else its round is over, the vote for it is there, or one that contradicts it.
  -- A journal that is closed knows nothing.
  abbrev pub Answers : Bool → List (Vote G D) → Subject D → Answer G D → Type 0
  Answers true votes subject Sign =
      IsFree same votes subject × (is_below floor (round_in subject) ≡ false)
  Answers true votes subject (Known vote) =
      Contains votes vote × (same_subject same (subject_of vote) subject ≡ true)
  Answers true votes subject (Refused vote) =
      Contains votes vote × (subjects_contradict same (subject_of vote) subject ≡ true)
  Answers true votes subject Over = is_below floor (round_in subject) ≡ true
  Answers false votes subject Closed = Unit {0}
  Answers is_open votes subject answer = ⊥

  -- Votes may be written behind others: each is to be signed as those before it are there.
  abbrev pub MayBeWrittenBehind : List (Vote G D) → List (Vote G D) → Type 0
  MayBeWrittenBehind old votes = (i : ℕ) (vote : Vote G D) → i < length votes
      → vote ≡ slice_index_or votes i vote
      → IsFree same (old ++ take i votes) (subject_of vote) × (is_over floor vote ≡ false)
