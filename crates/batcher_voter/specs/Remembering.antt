-- What a journal has of what its participant did.
use Rattle.std.specs.Prelude.{◌≡◌, ℕ, false, List, Contains}
use Rattle.batcher.specs.Votes.{round_in, subject_of}
use Rattle.batcher.specs.messages.Subject.{Subject}
use Rattle.batcher.specs.messages.Vote.{Vote}
use Rattle.batcher_agreement.specs.Policy.{Conduct, HasVoted, KeepsPolicy}
use Rattle.batcher_bytes.specs.Format.{Format}
use Rattle.batcher_journal.specs.Floors.{is_below}
use Rattle.batcher_journal.specs.Text.{Contents, IsText}

module _ {G D : Type 0} where
  pub record HasVoteFor (votes : List (Vote G D)) (s : Subject D) : Type 0 where
    pub vote : Vote G D
    pub there : Contains votes vote
    pub is_for : subject_of vote ≡ s

  -- The votes that it has are those that its participant wrote, but those of rounds before the
  -- floor.
  pub record Remembers (past : Conduct D) (contents : Contents G D) : Type 0 where
    pub are_there :
        (s : Subject D) → HasVoted past s → is_below contents.floor (round_in s) ≡ false
        → HasVoteFor contents.votes s
    pub no_others :
        (vote : Vote G D) → Contains contents.votes vote → HasVoted past (subject_of vote)

  -- What a crash leaves remembers what was done by the policy.
  pub record IsLeft (format : Format (Vote G D)) (past : Conduct D) (left : List ℕ) : Type 0 where
    pub keeps_policy : KeepsPolicy past
    pub remembers :
        (contents : Contents G D) → IsText format left contents → Remembers past contents
