-- Why a vote isn't cast.
use Rattle.std.specs.Prelude.{◌≡◌, ◌≢◌, ◌<◌, ◌≤◌, ◌⊎◌, ⊤, ℕ, Bool, true}
use Rattle.batcher.specs.Reports.{subjects_contradict}
use Rattle.batcher.specs.Votes.{subject_of}
use Rattle.batcher.specs.messages.Proposal.{Proposal}
use Rattle.batcher.specs.messages.Subject.{Subject}
use Rattle.batcher.specs.messages.Subject.TheVariants.{Notarize, Nullify, Finalize}
use Rattle.batcher_agreement.specs.Policy.{Conduct, HasVoted, IsGrounded, Knows, KnowsProposal}
use Rattle.batcher_node.specs.Windows.{numbered}
use Rattle.batcher_voter.specs.declared.answers.Rule.{Rule}
use Rattle.batcher_voter.specs.declared.answers.Rule.TheVariants.{Contradicts, Nullified}
use Rattle.batcher_voter.specs.declared.answers.Rule.TheVariants.{NotNotarized, ParentBeforeFinal}
use Rattle.batcher_voter.specs.declared.answers.Rule.TheVariants.{ParentNotEarlier, ParentUnknown}
use Rattle.batcher_voter.specs.declared.answers.Rule.TheVariants.{ViewNotNullified}

module _ {D : Type 0} where
  -- Another proposal of the round is known to be notarized: so more are faulty than may be.
  pub record IsAnotherNotarized (past : Conduct D) (p : Proposal D) : Type 0 where
    pub other : Proposal D
    pub of_round : other.round ≡ p.round
    pub differs : other ≢ p
    pub known : Knows past (Notarize other)

  -- What a vote rests on was learned in this life. Of what is before the final view nothing is
  -- known any more.
  abbrev pub HasGround : Conduct D → ℕ → Proposal D → Type 0
  HasGround past final p = (final ≤ p.parent.0) × IsGrounded past p

  abbrev pub RestsOnLearned : Conduct D → ℕ → Subject D → Type 0
  RestsOnLearned past final (Notarize p) = HasGround past final p
  RestsOnLearned past final (Nullify number) = ⊤
  RestsOnLearned past final (Finalize p) = Knows past (Notarize p)

  abbrev pub IsNotNotarized : Conduct D → Proposal D → Type 0
  IsNotNotarized past p = (Knows past (Notarize p) → ⊥) ⊎ IsAnotherNotarized past p

module _ {G D : Type 0} where
  -- Why a proposal has no ground, by what was learned.
  abbrev pub HasNoGround : Conduct D → ℕ → Rule G D → Proposal D → Type 0
  HasNoGround past final ParentNotEarlier p = p.round.view.0 ≤ p.parent.0
  HasNoGround past final ParentBeforeFinal p = p.parent.0 < final
  HasNoGround past final ParentUnknown p =
      (p.parent.0 ≢ 0) × (KnowsProposal past (numbered p.round.epoch p.parent.0) → ⊥)
  HasNoGround past final (ViewNotNullified view) p =
      (p.parent.0 < view.0) × ((view.0 < p.round.view.0)
      × (Knows past (Nullify (numbered p.round.epoch view.0)) → ⊥))
  HasNoGround past final rule p = ⊥

  -- Why a vote isn't cast, by what was voted for in all lives, and learned in this one.
  abbrev pub IsRefused : (D → D → Bool) → Conduct D → Conduct D → ℕ → Rule G D → Subject D
      → Type 0
  IsRefused same all past final (Contradicts vote) s =
      HasVoted all (subject_of vote) × (subjects_contradict same (subject_of vote) s ≡ true)
  IsRefused same all past final Nullified (Notarize p) = HasVoted all (Nullify p.round)
  IsRefused same all past final NotNotarized (Finalize p) = IsNotNotarized past p
  IsRefused same all past final rule (Notarize p) = HasNoGround past final rule p
  IsRefused same all past final rule s = ⊥
