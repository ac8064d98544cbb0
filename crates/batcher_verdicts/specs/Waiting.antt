-- What waits keeps its place while a round is called.
use Rattle.std.specs.Prelude.{◌≡◌, ◌⊎◌, ◌||◌, false, List, ◌∷◌, ◌++◌}
use Rattle.batcher_types.specs.declared.messages.Attestation.{Attestation}
use Rattle.batcher_types.specs.declared.messages.Kind.{Kind}
use Rattle.batcher_types.specs.declared.messages.Kind.TheVariants.{Nullification}
use Rattle.batcher_types.specs.declared.messages.Subject.{Subject}
use Rattle.batcher_votes.specs.RoundState.{of_kind, RoundState}
use Rattle.batcher_votes.specs.TrackerSteps.{is_skipped}
use Rattle.batcher_votes.specs.VerifierSteps.{attestations_of}
use Rattle.batcher_histories.specs.Config.{Config}
use Rattle.batcher_histories.specs.History.{History, Event}
use Rattle.batcher_histories.specs.Represents.{Represents, Simulates, tries_kind}
use Rattle.batcher_histories.specs.Selection.{is_certified, selected_proposal}
use Rattle.batcher_verdicts.specs.Recorded.{Recorded, Begins}

module _ {D K G C : Type 0} (x : Config D K G C) where
  -- The kind isn't tried by the call, nor certified after it, and its subject is the same: that of
  -- nullifies always is, and that of others where the selected proposal is.
  pub record GoesOnWaiting (past : History D K G C) (event : Event D K G C) (kind : Kind)
      : Type 0 where
    pub untried : tries_kind x past event.1 kind ≡ false
    pub unfinished : (is_certified (event ∷ past) kind || is_skipped x.mode) ≡ false
    pub same : (selected_proposal x (event ∷ past) ≡ selected_proposal x past)
        ⊎ (kind ≡ Nullification)

  -- Then the verdicts that are recorded on the first of what waits are on the first of it after the
  -- call too, and what comes is among the others, at their end.
  abbrev pub VerdictsStay : Type 0
  VerdictsStay =
      (past : History D K G C) (old new : RoundState G D) (event : Event D K G C) (kind : Kind)
      → Represents x past old → Simulates x past old event new → GoesOnWaiting past event kind
      → (r : Recorded G D) (subject : Subject D) (others : List (Attestation G))
      → Begins r subject (attestations_of (of_kind old.buffered.pending kind)) others
      → (more : List (Attestation G))
      × Begins r subject (attestations_of (of_kind new.buffered.pending kind)) (others ++ more)
