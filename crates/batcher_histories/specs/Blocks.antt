-- Whom a vote blocks, and for what.
use Rattle.std.specs.Prelude.{◌≡◌, Bool, true, false, not, ◌||◌, List, Some, is_some}
use Rattle.std.specs.List.{list_any}
use Rattle.batcher_types.specs.declared.positions.Participant.{Participant}
use Rattle.batcher_types.specs.declared.messages.Vote.{Vote}
use Rattle.batcher_histories.specs.declared.answers.Admission.{Admission}
use Rattle.batcher_votes.specs.declared.votes.Mode.TheVariants.{Retaining}
use Rattle.batcher_histories.specs.Config.{Config, sender_in}
use Rattle.batcher_types.specs.Votes.{kind_of, opposes}
use Rattle.batcher_histories.specs.History.{History, names_sender}
use Rattle.batcher_histories.specs.FirstVotes.{first_votes, contradicts}
use Rattle.batcher_histories.specs.Selection.{is_released}
use Rattle.batcher_histories.specs.Promises.{AtEachVote, votes_cast, gave_cause}

module _ {D K G C : Type 0} (x : Config D K G C) where
  -- A vote gives cause to block its sender where it doesn't name it, or contradicts one of some
  -- earlier votes.
  abbrev pub gives_cause : List (Vote G D) → K → Vote G D → Bool
  gives_cause earlier sender vote =
      not (names_sender x sender vote) || list_any (λ v. contradicts x v vote) earlier

  -- A block is for the vote itself, which gives cause beside those that were cast before it. So no
  -- earlier deed is held against a later vote.
  abbrev pub IsBlockedForItself : History D K G C → K → Vote G D → Admission G D → Type 0
  IsBlockedForItself past sender vote admission =
      is_some admission.block ≡ true → gives_cause (votes_cast x past) sender vote ≡ true

  -- In every mode a vote is blocked that doesn't name its sender, or opposes a first vote.
  abbrev pub IsBlockedInEveryMode : History D K G C → K → Vote G D → Admission G D → Type 0
  IsBlockedInEveryMode past sender vote admission =
      (not (names_sender x sender vote)
      || list_any (λ v. opposes v vote) (first_votes x past)) ≡ true
      → is_some admission.block ≡ true

  -- Until its kind is released a vote is blocked exactly if it gives cause beside the first votes.
  abbrev pub IsBlockedExactlyUntilRelease : History D K G C → K → Vote G D → Admission G D → Type 0
  IsBlockedExactlyUntilRelease past sender vote admission =
      is_released x past (kind_of vote) ≡ false
      → is_some admission.block ≡ gives_cause (first_votes x past) sender vote

  -- So in a retaining round, which releases nothing, every block is exact.
  abbrev pub IsBlockedExactlyIfRetaining : History D K G C → K → Vote G D → Admission G D → Type 0
  IsBlockedExactlyIfRetaining past sender vote admission =
      x.mode ≡ Retaining → is_some admission.block ≡ gives_cause (first_votes x past) sender vote

  -- The participant with the key gave cause to be blocked, where the key is one's.
  abbrev pub GaveCause : History D K G C → K → Type 0
  GaveCause past key = (i : Participant) → sender_in x key ≡ Some i → gave_cause x past i.0 ≡ true

  -- Whom the network votes of a history block: each whom they have to, and nobody without cause.
  pub record BlocksJustly (past : History D K G C) : Type 0 where
    pub for_the_vote_itself : AtEachVote IsBlockedForItself past
    pub in_every_mode : AtEachVote IsBlockedInEveryMode past
    pub exact_until_release : AtEachVote IsBlockedExactlyUntilRelease past
    pub exact_where_votes_are_retained : AtEachVote IsBlockedExactlyIfRetaining past
