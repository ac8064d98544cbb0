-- What comes of a view that is made the final one by a certificate.
use Rattle.std.specs.Prelude.{◌≡◌, ◌≢◌, ◌<◌, ◌⊎◌, ◌∷◌, ℕ, ⊤, true, false, List, Result}
use Rattle.std.specs.Prelude.{IfErr, OnErr, OnOk}
use Rattle.batcher.specs.Verifiers.{certifies_itself}
use Rattle.batcher.specs.Votes.{kind_certified, round_in, subject_certified}
use Rattle.batcher.specs.messages.Certificate.{Certificate}
use Rattle.batcher.specs.messages.Kind.TheVariants.{Finalization}
use Rattle.batcher.specs.messages.Vote.{Vote}
use Rattle.batcher_agreement.specs.Lives.{called, verified}
use Rattle.batcher_bytes.specs.Copies.{CopyView, KeepsCopy}
use Rattle.batcher_bytes.specs.Format.{Format}
use Rattle.batcher_node.specs.Events.{view_finalized}
use Rattle.batcher_node.specs.Nodes.{NodeConfig, SameNode}
use Rattle.batcher_voter.specs.Journals.{IsRaised, IsTooLongToFinalize}
use Rattle.batcher_voter.specs.Voting.{ForEachLife, IsVoting, LeavesWhatWasDone, VoterStays}
use Rattle.batcher_voter.specs.Voting.{VoterView}
use Rattle.batcher_voter.specs.declared.answers.FinalizeFault.{FinalizeFault}
use Rattle.batcher_voter.specs.declared.answers.FinalizeFault.TheVariants.{Closed, Forged, Full}
use Rattle.batcher_voter.specs.declared.answers.FinalizeFault.TheVariants.{NotOfEpoch, OutOfMemory}
use Rattle.batcher_voter.specs.declared.answers.FinalizeFault.TheVariants.{Passed}

module _ {S D K G C L : Type 0} (x : NodeConfig D K G C) (votes : Format (Vote G D))
    (certificates : Format (Certificate C D)) (is_too_small : L → List ℕ → Type 0)
    (is_honest : L → Type 0) (may_leave : L → List ℕ → Type 0)
    (is_copied_as : L → CopyView → Type 0) (old : VoterView S G D L) (certificate : Certificate C D)
    (new : VoterView S G D L) where
  -- Why the view of the certificate isn't made the final one.
  abbrev pub WhyNotFinalized : FinalizeFault → Type 0
  WhyNotFinalized OutOfMemory = new.journal.is_open ≡ old.journal.is_open
  WhyNotFinalized Full =
      (new.journal.is_open ≡ old.journal.is_open)
      × IsTooLongToFinalize votes certificates is_too_small certificate old.journal
  WhyNotFinalized NotOfEpoch =
      (kind_certified certificate ≢ Finalization)
      ⊎ ((round_in (subject_certified certificate)).epoch ≢ x.epoch)
  WhyNotFinalized Passed =
      (round_in (subject_certified certificate)).view.0 < old.node.window.finalized
  WhyNotFinalized Forged = certifies_itself x.meaning certificate ≡ false
  WhyNotFinalized Closed = new.journal.is_open ≡ false

  -- Either the certificate's view is the final one from now on, and the journal begins with it, or
  -- the call is refused.
  pub record Finalizes (result : Result ⊤ FinalizeFault) : Type 0 where
    pub meets :
        OnOk result
        (ForEachLife x old (λ past earlier. IsVoting x
        (called (view_finalized (round_in (subject_certified certificate)).view.0)
        ∷ verified certificate ∷ past) earlier new))
    pub begins :
        OnOk result (new.node.window.finalized ≡ (round_in (subject_certified certificate)).view.0)
    pub kind : OnOk result (kind_certified certificate ≡ Finalization)
    pub raised :
        OnOk result
        (IsRaised (round_in (subject_certified certificate)) old.journal new.journal)
    pub why : IfErr result WhyNotFinalized
    pub stays : OnErr result (VoterStays x old new)
    pub refused : OnErr result (new.node ≡ old.node)
    pub unraised :
        OnErr result
        (new.journal.is_open ≡ true
        → (old.journal.is_open ≡ true) × (new.journal.contents ≡ old.journal.contents))
    -- Whatever it answers, a crash leaves what was done.
    pub leaves :
        (left : List ℕ) → old.journal.is_open ≡ true → is_honest new.journal.log
        → may_leave new.journal.log left
        → ForEachLife x old (λ past earlier. LeavesWhatWasDone votes past earlier left)
    pub same : SameNode old.node new.node
    pub copied : KeepsCopy is_copied_as old.journal.log new.journal.log
