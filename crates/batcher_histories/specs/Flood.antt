-- What a flood of messages can cost.
use Rattle.std.specs.Prelude.{◌≡◌, ◌≤◌, ◌+◌, ◌*◌, ◌==◌, ℕ, Bool, true, false, not, [], ◌∷◌, length}
use Rattle.std.specs.Prelude.{None, is_some}
use Rattle.batcher_histories.specs.declared.calls.Call.TheVariants.{Construct as ConstructCall}
use Rattle.batcher_histories.specs.declared.answers.Answer.TheVariants.{Construct as ConstructAnswer}
use Rattle.batcher_histories.specs.Config.{Config, participants_in}
use Rattle.batcher_types.specs.Lists.{count}
use Rattle.batcher_types.specs.Votes.{signer_of}
use Rattle.batcher_histories.specs.History.{Event, History, batch_given}
use Rattle.batcher_histories.specs.Work.{processed_total}
use Rattle.batcher_histories.specs.Promises.{AtEachEvent}
use Rattle.batcher_histories.specs.AnswerFacts.{votes_added}
use Rattle.batcher_histories.specs.OrderIndependence.{is_construction}

module _ {D K G C : Type 0} where
  -- how many batches were given
  abbrev pub batches_given : History D K G C → ℕ
  batches_given past = count (λ event. is_some (batch_given event.1)) past

  -- how many constructions were made, and how many other calls
  abbrev pub constructions_made : History D K G C → ℕ
  constructions_made past = count (λ event. is_construction event.0) past

  abbrev pub others_made : History D K G C → ℕ
  others_made past = count (λ event. not (is_construction event.0)) past

  -- whether a round is at rest: nothing was called since a construction gave no batch, or at all
  abbrev pub is_at_rest : History D K G C → Bool
  is_at_rest [] = true
  is_at_rest ((ConstructCall, ConstructAnswer None) ∷ past) = true
  is_at_rest (event ∷ past) = false

  -- A construction is made of no round that is at rest.
  abbrev pub ConstructsUnlessAtRest : History D K G C → Event D K G C → Type 0
  ConstructsUnlessAtRest past event = is_construction event.0 ≡ true → is_at_rest past ≡ false

  -- Who keeps to this makes no more constructions than votes are added and other calls made.
  abbrev pub TakesFewConstructions : History D K G C → Type 0
  TakesFewConstructions past =
      AtEachEvent ConstructsUnlessAtRest past
      → constructions_made past ≤ length (votes_added past) + others_made past

module _ {D K G C : Type 0} (x : Config D K G C) where
  -- What holds of every list of calls on a fresh round, over its history, whatever came how often.
  pub record IsFloodBounded (past : History D K G C) : Type 0 where
    -- Two votes of each participant are added at most.
    pub two_each : (i : ℕ) → count (λ v. signer_of v == i) (votes_added past) ≤ 2
    pub few_added : length (votes_added past) ≤ 2 * participants_in x
    -- All batches together process no more votes than were added,
    pub processed_by_added : processed_total past ≤ length (votes_added past)
    -- and are no more than these, those with certificates among them.
    pub batches_by_added : batches_given past ≤ length (votes_added past)
    pub few_constructions : TakesFewConstructions past
