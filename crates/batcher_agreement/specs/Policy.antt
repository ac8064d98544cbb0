-- The policy: which votes a participant may cast, by what it has cast and learned before.
use Rattle.std.specs.Prelude.{◌≡◌, ◌<◌, ◌⊎◌, ⊤, ℕ, List, [], ◌∷◌}
use Rattle.batcher.specs.positions.Round.{Round}
use Rattle.batcher.specs.messages.Proposal.{Proposal}
use Rattle.batcher.specs.messages.Subject.{Subject}
use Rattle.batcher.specs.messages.Subject.TheVariants.{Notarize, Nullify, Finalize}
use Rattle.batcher_node.specs.Windows.{numbered}

-- What a participant did: it learned that a subject is certified, by a certificate that it has, or
-- it voted for one: the vote was written, to be sent then and as often as it likes.
pub data Act (D : Type 0) : Type 0 where
  learned : Subject D → Act D
  voted : Subject D → Act D

-- all that it did, the newest first
abbrev pub Conduct : Type 0 → Type 0
Conduct D = List (Act D)

module _ {D : Type 0} where
  abbrev pub HasVoted : Conduct D → Subject D → Type 0
  HasVoted [] s = ⊥
  HasVoted (voted t ∷ past) s = (t ≡ s) ⊎ HasVoted past s
  HasVoted (learned t ∷ past) s = HasVoted past s

  -- it knows that this is certified
  abbrev pub Knows : Conduct D → Subject D → Type 0
  Knows [] s = ⊥
  Knows (voted t ∷ past) s = Knows past s
  Knows (learned t ∷ past) s = (t ≡ s) ⊎ Knows past s

  -- a proposal of the round is known to be notarized or final
  pub record KnowsProposal (past : Conduct D) (number : Round) : Type 0 where
    pub proposal : Proposal D
    pub of_round : proposal.round ≡ number
    pub known : Knows past (Notarize proposal) ⊎ Knows past (Finalize proposal)

  -- The parent of a proposal is earlier, and is the start of the epoch or known, and each view
  -- between the two is known to be nullified.
  pub record IsGrounded (past : Conduct D) (p : Proposal D) : Type 0 where
    pub earlier : p.parent.0 < p.round.view.0
    pub parent :
        (p.parent.0 ≡ 0) ⊎ KnowsProposal past (numbered p.round.epoch p.parent.0)
    pub between :
        (view : ℕ) → p.parent.0 < view → view < p.round.view.0
        → Knows past (Nullify (numbered p.round.epoch view))

  pub record MayNotarize (past : Conduct D) (p : Proposal D) : Type 0 where
    pub grounded : IsGrounded past p
    -- at most one proposal a round, and none of a round that it voted to nullify
    pub no_other : (q : Proposal D) → q.round ≡ p.round → HasVoted past (Notarize q) → q ≡ p
    pub not_nullified : HasVoted past (Nullify p.round) → ⊥

  pub record MayFinalize (past : Conduct D) (p : Proposal D) : Type 0 where
    pub notarized : Knows past (Notarize p)
    pub not_nullified : HasVoted past (Nullify p.round) → ⊥

  abbrev pub MayNullify : Conduct D → Round → Type 0
  MayNullify past number =
      (p : Proposal D) → p.round ≡ number → HasVoted past (Finalize p) → ⊥

  abbrev pub IsCleared : Conduct D → Subject D → Type 0
  IsCleared past (Notarize p) = MayNotarize past p
  IsCleared past (Nullify number) = MayNullify past number
  IsCleared past (Finalize p) = MayFinalize past p

  -- Each vote was cleared when it was written.
  abbrev pub KeepsPolicy : Conduct D → Type 0
  KeepsPolicy [] = ⊤
  KeepsPolicy (voted s ∷ past) = IsCleared past s × KeepsPolicy past
  KeepsPolicy (learned s ∷ past) = KeepsPolicy past
