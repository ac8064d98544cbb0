-- Lists of own votes in which none contradict each other.
use Rattle.std.specs.Prelude.{◌≡◌, ◌⊎◌, Bool, true, false, List, All, Contains}
use Rattle.batcher.specs.Reports.{subjects_contradict}
use Rattle.batcher_types.specs.Votes.{same_subject, subject_of}
use Rattle.batcher_types.specs.declared.messages.Subject.{Subject}
use Rattle.batcher_types.specs.declared.messages.Vote.{Vote}

module _ {G D : Type 0} (same : D → D → Bool) where
  -- the vote isn't for the subject, and doesn't contradict it
  abbrev pub LeavesFree : Subject D → Vote G D → Type 0
  LeavesFree subject vote = (same_subject same (subject_of vote) subject ≡ false)
      × (subjects_contradict same (subject_of vote) subject ≡ false)

  -- a vote among them that is for the subject, or contradicts it
  abbrev pub BarsSubject : List (Vote G D) → Subject D → Vote G D → Type 0
  BarsSubject votes subject vote = Contains votes vote
      × ((same_subject same (subject_of vote) subject ≡ true)
      ⊎ (subjects_contradict same (subject_of vote) subject ≡ true))

  -- none of the votes is for the subject, and none contradicts it
  abbrev pub IsFree : List (Vote G D) → Subject D → Type 0
  IsFree votes subject = All (LeavesFree subject) votes

  -- no two of the votes contradict each other
  abbrev pub AreCompatible : List (Vote G D) → Type 0
  AreCompatible votes = (x y : Vote G D) → Contains votes x → Contains votes y
      → subjects_contradict same (subject_of x) (subject_of y) ≡ false

  -- Votes for one subject are one, with one signature.
  abbrev pub AreSignedOnce : List (Vote G D) → Type 0
  AreSignedOnce votes = (x y : Vote G D) → Contains votes x → Contains votes y
      → same_subject same (subject_of x) (subject_of y) ≡ true → x ≡ y
