-- `poll` comes to an end: where nothing comes meanwhile, with each task less is left to be given.
use Rattle.std.specs.Prelude.{◌≡◌, ◌<◌, ◌+◌, ◌-◌, ◌*◌, ⊤, ℕ, Bool, cond, false, is_some, length}
use Rattle.std.specs.Prelude.{nat_lt, not, ◌∷◌, IfSome, None, Option, Some}
use Rattle.std.specs.List.{count_by}
use Rattle.batcher.specs.messages.Certificate.{Certificate}
use Rattle.batcher.specs.messages.Certificate.TheVariants.{Finalization as FinalizationCertificate}
use Rattle.batcher.specs.messages.Subject.{Subject}
use Rattle.batcher.specs.messages.Subject.TheVariants.{Finalize}
use Rattle.batcher_agreement.specs.Policy.{Conduct}
use Rattle.batcher_node.specs.Nodes.{NodeConfig}
use Rattle.batcher_validator.specs.Histories.{ValidatorHistory, gave, last_to_sign}
use Rattle.batcher_validator.specs.Running.{ForEachRun, Gives, IsReadyTask, IsRunning, RunStays}
use Rattle.batcher_validator.specs.Running.{ValidatorView}
use Rattle.batcher_validator.specs.Tasks.{IsGivenMeanwhile, MaySign, NothingIsDue}
use Rattle.batcher_validator.specs.Tasks.{NothingIsDueMeanwhile}
use Rattle.batcher_validator.specs.declared.task.Task.{Task}
use Rattle.batcher_validator.specs.declared.task.Task.TheVariants.{Final, Sign}
use Rattle.batcher_voter.specs.Voting.{IsFinalizable, VoterView}

-- whether it is a finalization of a view after this one
abbrev pub is_final_after : {C D : Type 0} → ℕ → Certificate C D → Bool
is_final_after view (FinalizationCertificate f) = nat_lt view f.proposal.round.view.0
is_final_after view c = false

-- Where two proposals of a view are known to be notarized, the last of them is preferred.
abbrev pub IsPreferred : {S G D L : Type 0} → (D → D → Bool) → VoterView S G D L → Subject D
    → Type 0
IsPreferred same voter (Finalize p) = IsFinalizable same voter p
IsPreferred same voter s = ⊤

module _ {S G D L C : Type 0} (validator : ValidatorView S G D L C) where
  -- how many finalizations are kept of views after the last that was given as final
  abbrev pub finals_left : ℕ
  finals_left =
      count_by (is_final_after validator.given.announced) validator.shelf.certificates

  -- How much else may be left, but for a vote that is to be signed: participants to be blocked, the
  -- next view, own votes to be cast again, to be sent, and to be sent again, certificates, each
  -- with what may be forwarded, a proposal to be made or to be judged, and votes to be verified.
  abbrev pub others_left : ℕ
  others_left =
      count_by not validator.given.blocked
      + ((validator.voter.knowledge.highest + 1 - validator.given.asked)
      + ((validator.given.tally.begun - validator.given.tally.recast)
      + ((length validator.voter.journal.contents.votes - validator.given.tally.sent)
      + ((validator.given.tally.sent - validator.given.tally.resent)
      + (2 * (length validator.shelf.certificates - validator.shelf.handed)
      + (cond (is_some validator.given.forwarding) 1 0
      + ((validator.voter.node.window.current - validator.given.intent.posed)
      + cond validator.given.verifying 0 1)))))))

module _ {S D K G C L : Type 0} (x : NodeConfig D K G C) where
  -- What was given to be signed, last of all, may still be signed. Meanwhile nothing else is
  -- given to be signed.
  pub record WaitsForVote (past : ValidatorHistory D K G C) (earlier : Conduct D)
      (validator : ValidatorView S G D L C) : Type 0 where
    pub subject : Subject D
    pub was_last : last_to_sign past ≡ Some subject
    pub may_sign : MaySign x earlier past subject
    pub is_preferred : IsPreferred x.same_digest validator.voter subject

  -- With each task less is left. Where a proposal is given as final, more else may be left.
  abbrev pub HasLessLeft : ValidatorView S G D L C → ValidatorView S G D L C → Task G D → Type 0
  HasLessLeft old new (Final p) = finals_left new < finals_left old
  HasLessLeft old new (Sign s) =
      (finals_left new ≡ finals_left old) × ((others_left new ≡ others_left old)
      × ForEachRun x old (λ past earlier. (WaitsForVote past earlier old → ⊥)
      × WaitsForVote (gave (Sign s) ∷ past) earlier new))
  HasLessLeft old new task =
      (finals_left new ≡ finals_left old) × (others_left new < others_left old)

  -- A task is given that is to be done, and can be.
  pub record GivesTask (old new : ValidatorView S G D L C) (task : Task G D) : Type 0 where
    pub gives : Gives x old new task
    pub ready : IsReadyTask old task

  -- One is given where one is due, and the voter stays as it was.
  pub record GivesDue (old new : ValidatorView S G D L C) (given : Option (Task G D)) : Type 0
    where
      pub some : IfSome given (GivesTask old new)
      pub nothing :
          given ≡ None → ForEachRun x old (λ past earlier. NothingIsDue x earlier past)
      pub rests : given ≡ None → RunStays x old new
      pub voter : new.voter ≡ old.voter

  -- While a write is under way, a task is given where one is due that waits for no write.
  pub record GivesMeanwhile (old new : ValidatorView S G D L C) (given : Option (Task G D))
      : Type 0 where
    pub some : IfSome given (GivesTask old new)
    pub meanwhile : IfSome given IsGivenMeanwhile
    pub nothing :
        given ≡ None → ForEachRun x old (λ past earlier. NothingIsDueMeanwhile x earlier past)
    pub same : given ≡ None → new ≡ old
    pub voter : new.voter ≡ old.voter

  -- A validator is polled again and again, and gives a task each time. Nothing comes meanwhile.
  pub record GivesOnAndOn (validator : ℕ → ValidatorView S G D L C) (task : ℕ → Task G D) : Type 0
    where
      pub past : ValidatorHistory D K G C
      pub earlier : Conduct D
      pub begins : IsRunning x past earlier (validator 0)
      pub gives : (n : ℕ) → Gives x (validator n) (validator (n + 1)) (task n)
      pub less : (n : ℕ) → HasLessLeft (validator n) (validator (n + 1)) (task n)
