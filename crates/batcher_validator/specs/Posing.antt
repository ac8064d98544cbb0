-- What a validator votes for, proposes and judges, whatever happened to it, and what it has not to
-- give, by what it has noted.
use Rattle.std.specs.Prelude.{◌≡◌, ◌<◌, ◌≤◌, ◌+◌, ◌⊎◌, ◌^◌, ℕ, Option, Some, None, length, true}
use Rattle.std.specs.List.{slice_get}
use Rattle.batcher.specs.messages.Proposal.{Proposal}
use Rattle.batcher.specs.messages.Subject.{Subject}
use Rattle.batcher.specs.messages.Subject.TheVariants.{Notarize}
use Rattle.batcher.specs.positions.Participant.{Participant}
use Rattle.batcher.specs.positions.View.{View}
use Rattle.batcher_agreement.specs.Lives.{conduct_of}
use Rattle.batcher_agreement.specs.Policy.{Conduct, IsGrounded}
use Rattle.batcher_node.specs.Nodes.{NodeConfig, NodeView, cause_at}
use Rattle.batcher_node.specs.Windows.{numbered}
use Rattle.batcher_validator.specs.Histories.{Leads, ValidatorHistory, conduct_in, leader_in}
use Rattle.batcher_validator.specs.Histories.{proposal_by, voter_history, window_by}
use Rattle.batcher_validator.specs.Resending.{IsPlaceFrom}
use Rattle.batcher_validator.specs.Running.{ForEachRun, ValidatorView}
use Rattle.batcher_validator.specs.Tasks.{SignsNoMore, HasVotedIn, IsContested, IsOpen, IsSigning}
use Rattle.batcher_validator.specs.Tasks.{IsWanted, MaySign, MayVote}

module _ {S D G C L : Type 0} (validator : ValidatorView S G D L C) where
  -- the next view was entered, or given to be
  abbrev pub EntersNone : Type 0
  EntersNone =
      (2 ^ 64 ≤ validator.voter.knowledge.highest + 1)
      ⊎ ((validator.voter.knowledge.highest + 1 ≤ validator.voter.node.window.current)
      ⊎ (validator.voter.knowledge.highest + 1 ≤ validator.given.asked))

  -- the votes of earlier lives were given to be cast again
  abbrev pub CastsNone : Type 0
  CastsNone =
      (validator.given.tally.begun ≤ validator.given.tally.recast)
      ⊎ (slice_get validator.voter.journal.contents.votes validator.given.tally.recast ≡ None)

  -- at this place is the next vote that is to be sent, or none
  abbrev pub IsPlaceToSend : ℕ → Type 0
  IsPlaceToSend place =
      IsPlaceFrom validator.given.resending.from validator.voter.journal.contents.votes
      validator.given.tally.resent validator.given.tally.sent place

  -- all votes that are to be sent were given to be
  pub record SendsNone : Type 0 where
    pub place : ℕ
    pub is_next : IsPlaceToSend place
    pub none : slice_get validator.voter.journal.contents.votes place ≡ None

module _ {S D K G C L : Type 0} (config : NodeView S G D → NodeConfig D K G C)
    (validator : ValidatorView S G D L C) where
  abbrev here : NodeConfig D K G C
  here = config validator.voter.node

  -- what is said of it
  abbrev Always : (ValidatorHistory D K G C → Conduct D → Type 0) → Type 0
  Always holds = ForEachRun here validator holds

  -- whoever is blocked was given to be
  abbrev pub BlocksNobody : Type 0
  BlocksNobody =
      (validator.given.calm ≡ true) ⊎ ((i : ℕ) → i < length here.meaning.participants
      → (cause_at validator.voter.node.blocked i ≡ None)
      ⊎ (slice_get validator.given.blocked i ≡ Some true))

  -- a subject may be voted for, or it may not
  abbrev pub CanVote : Subject D → Type 0
  CanVote s = Always (λ past earlier. MayVote here earlier past s)

  abbrev pub CannotVote : Subject D → Type 0
  CannotVote s = Always (λ past earlier.
      MayVote here earlier past s → IsContested (conduct_in earlier past) s)

  -- it may be signed, or it may not
  abbrev pub CanSign : Subject D → Type 0
  CanSign s = Always (λ past earlier. MaySign here earlier past s)

  abbrev pub CannotSign : Subject D → Type 0
  CannotSign s = Always (λ past earlier.
      MaySign here earlier past s → IsContested (conduct_in earlier past) s)

  -- and that is wanted
  abbrev pub IsToSign : Subject D → Type 0
  IsToSign s = Always (λ past earlier.
      IsWanted here earlier past s × MaySign here earlier past s)

  abbrev pub IsNotToSign : Subject D → Type 0
  IsNotToSign s = Always (λ past earlier.
      IsWanted here earlier past s → MaySign here earlier past s
      → IsContested (conduct_in earlier past) s)

  -- what was given to be signed is being signed, or it is no more
  abbrev pub Signs : Type 0
  Signs = Always (λ past earlier. IsSigning here earlier past)

  abbrev pub SignsNothing : Type 0
  SignsNothing = Always (λ past earlier. SignsNoMore here earlier past)

  -- a proposal of the view is to be made, or judged, or it isn't
  abbrev pub CanPose : ℕ → Type 0
  CanPose view = Always (λ past earlier. IsOpen here past view)

  abbrev pub CannotPose : ℕ → Type 0
  CannotPose view = Always (λ past earlier. IsOpen here past view → ⊥)

  -- the validator leads a view, or it doesn't
  abbrev pub CanLead : ℕ → Type 0
  CanLead view = Always (λ past earlier. Leads past view)

  abbrev pub CannotLead : ℕ → Type 0
  CannotLead view = Always (λ past earlier. Leads past view → ⊥)

  -- it has voted in a view, or it hasn't
  abbrev pub HasCast : ℕ → Type 0
  HasCast view = Always (λ past earlier.
      HasVotedIn here earlier past (numbered here.epoch view))

  abbrev pub HasNotCast : ℕ → Type 0
  HasNotCast view = Always (λ past earlier.
      HasVotedIn here earlier past (numbered here.epoch view) → ⊥)

  -- a proposal on the parent is grounded
  abbrev pub Grounds : ℕ → View → Type 0
  Grounds view parent = Always (λ past earlier. (p : Proposal D)
      → p.round ≡ numbered here.epoch view → p.parent ≡ parent
      → IsGrounded (conduct_in earlier past) p)

  -- who leads the current view, and what is proposed there
  abbrev pub IsLeader : Option Participant → Type 0
  IsLeader leader = Always (λ past earlier.
      leader ≡ leader_in past validator.voter.node.window.current)

  abbrev pub IsProposalNow : Option (Proposal D) → Type 0
  IsProposalNow proposal = Always (λ past earlier.
      proposal ≡ proposal_by here past validator.voter.node.window.current)

  -- a proposal is that of its view
  abbrev pub IsProposed : Proposal D → Type 0
  IsProposed p = Always (λ past earlier. proposal_by here past p.round.view.0 ≡ Some p)

  -- none is to be made
  abbrev pub IsNotToPropose : Type 0
  IsNotToPropose = Always (λ past earlier. (p : Proposal D)
      → IsOpen here past p.round.view.0 → Leads past p.round.view.0 → p.round.epoch ≡ here.epoch
      → (HasVotedIn here earlier past p.round → ⊥) → (window_by past).finalized ≤ p.parent.0
      → IsGrounded (conduct_of (voter_history past)) p → ⊥)

  -- and none is to be judged
  abbrev pub IsNotToJudge : Type 0
  IsNotToJudge = Always (λ past earlier. (p : Proposal D)
      → IsOpen here past p.round.view.0 → (Leads past p.round.view.0 → ⊥)
      → proposal_by here past p.round.view.0 ≡ Some p → MayVote here earlier past (Notarize p) → ⊥)
