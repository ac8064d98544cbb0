-- No double work: how many votes the batches of a history process at most.
use Rattle.std.specs.Prelude.{◌+◌, ◌≤◌, ℕ, not, ◌&&◌, List, [], ◌∷◌, ◌++◌, length, filter}
use Rattle.std.specs.Option.{option_map_or}
use Rattle.batcher_types.specs.declared.messages.Vote.{Vote}
use Rattle.batcher_types.specs.declared.messages.Kind.TheVariants.{Notarization}
use Rattle.batcher_histories.specs.declared.answers.Answer.{Answer}
use Rattle.batcher_histories.specs.Config.{Config}
use Rattle.batcher_types.specs.Votes.{kind_of, is_of_kind}
use Rattle.batcher_histories.specs.History.{History, batch_given, sent_votes}
use Rattle.batcher_histories.specs.FirstVotes.{first_votes, own_first_votes, is_free}
use Rattle.batcher_histories.specs.Selection.{is_certified, restored_votes}
use Rattle.batcher_histories.specs.Eligible.{holds_vote}

-- how many votes the batch of an answer processed, if one was given
abbrev pub processed_by : {G C D : Type 0} → Answer G C D → ℕ
processed_by answer = option_map_or (λ batch. batch.processed) (batch_given answer) 0

module _ {D K G C : Type 0} where
  -- the votes that all batches have processed
  abbrev pub processed_total : History D K G C → ℕ
  processed_total [] = 0
  processed_total (event ∷ past) = processed_by event.1 + processed_total past

module _ {D K G C : Type 0} (x : Config D K G C) where
  -- the network votes that were added while their kind wasn't certified, the newest first
  abbrev pub votes_accepted_open : History D K G C → List (Vote G D)
  votes_accepted_open [] = []
  votes_accepted_open (event ∷ past) =
      filter (λ v. is_free (first_votes x past) v && not (is_certified past (kind_of v)))
      (sent_votes x event.0) ++ votes_accepted_open past

  -- the own notarizes that a replacement has restored
  abbrev pub own_notarizes_restored : History D K G C → List (Vote G D)
  own_notarizes_restored past =
      filter (λ v. is_of_kind Notarization v && holds_vote (own_first_votes x past) v)
      (restored_votes x past)

  -- No more votes are processed than were accepted from the network in time, and own notarizes
  -- restored.
  abbrev pub IsWorkBounded : History D K G C → Type 0
  IsWorkBounded past =
      processed_total past ≤ length (votes_accepted_open past) + length
      (own_notarizes_restored past)
