-- What comes of a participant that sends just those own votes that its round answered as added.
use Rattle.std.specs.Prelude.{◌≡◌, ◌==◌, ⊤, ℕ, true, false}
use Rattle.batcher_histories.specs.declared.calls.Call.TheVariants.{Network as NetworkCall}
use Rattle.batcher_histories.specs.declared.calls.Call.TheVariants.{Own as OwnCall}
use Rattle.batcher_histories.specs.Config.{Config, sender_in}
use Rattle.batcher_types.specs.Lists.{is_some_and}
use Rattle.batcher_types.specs.Votes.{signer_of}
use Rattle.batcher_histories.specs.History.{Event, History}
use Rattle.batcher_histories.specs.Promises.{AtEachEvent, gave_cause}
use Rattle.batcher_histories.specs.Reports.{IsAmong}
use Rattle.batcher_histories.specs.Honest.{own_votes_added}
use Rattle.batcher_histories.specs.RunContract.{IsPromised}

module _ {D K G C : Type 0} (x : Config D K G C) where
  -- What comes under the participant's key is signed by it, and is one of the own votes that were
  -- added in its own history; and who hears it casts no votes of that participant.
  abbrev pub SendsAdded : History D K G C → ℕ → History D K G C → Event D K G C → Type 0
  SendsAdded mine i past (NetworkCall sender vote, answer) =
      is_some_and (sender_in x sender) (λ p. p.0 == i) ≡ true
      → (signer_of vote ≡ i) × IsAmong vote (own_votes_added mine)
  SendsAdded mine i past (OwnCall vote, answer) = (signer_of vote == i) ≡ false
  SendsAdded mine i past event = ⊤

  -- By such a participant no cause was given in any history, so no round blocks it. Its own history
  -- may be of a round in another mode.
  abbrev pub SendersOfAddedGiveNoCause : Type 0
  SendersOfAddedGiveNoCause =
      (y : Config D K G C) (mine past : History D K G C) (i : ℕ) → IsPromised y mine
      → AtEachEvent (SendsAdded mine i) past → gave_cause x past i ≡ false
