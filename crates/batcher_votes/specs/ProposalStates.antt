-- The selected proposal with its source, and how it changes.
use Rattle.std.specs.Prelude.{Bool, true, false, not, Option, Some, None}
use Rattle.batcher_types.specs.declared.messages.Proposal.{Proposal}
use Rattle.batcher_votes.specs.declared.verifier.ProposalState.{ProposalState}
use Rattle.batcher_votes.specs.declared.verifier.ProposalState.TheVariants.{Unknown}
use Rattle.batcher_votes.specs.declared.verifier.ProposalState.TheVariants.{Leader as LeadersProposal}
use Rattle.batcher_votes.specs.declared.verifier.ProposalState.TheVariants.{Certificate as FixedProposal}
use Rattle.batcher_types.specs.Votes.{same_proposal}

module _ {D : Type 0} where
  abbrev pub proposal_of : ProposalState D → Option (Proposal D)
  proposal_of Unknown = None
  proposal_of (LeadersProposal proposal) = Some proposal
  proposal_of (FixedProposal proposal) = Some proposal

  -- Where none is selected either source is taken, and a fixed proposal in the place of the
  -- leader's. Nothing else changes it.
  abbrev pub updated : ProposalState D → ProposalState D → ProposalState D
  updated Unknown next = next
  updated (LeadersProposal earlier) (FixedProposal proposal) = FixedProposal proposal
  updated (LeadersProposal earlier) _ = LeadersProposal earlier
  updated (FixedProposal earlier) next = FixedProposal earlier

  abbrev pub is_fixed : ProposalState D → Bool
  is_fixed Unknown = false
  is_fixed (LeadersProposal proposal) = false
  is_fixed (FixedProposal proposal) = true

  -- the leader's vote selects its proposal where none is selected
  abbrev pub selects : ProposalState D → Option (Proposal D) → ProposalState D
  selects state (Some proposal) = updated state (LeadersProposal proposal)
  selects state None = state

  -- evidence fixes its proposal where none is fixed
  abbrev pub fixes : ProposalState D → Option (Proposal D) → ProposalState D
  fixes state (Some proposal) = updated state (FixedProposal proposal)
  fixes state None = state

module _ {D : Type 0} (same : D → D → Bool) where
  -- whether fixing the proposal puts it in the place of another, which was the leader's
  abbrev pub replaces : ProposalState D → Proposal D → Bool
  replaces Unknown proposal = false
  replaces (LeadersProposal earlier) proposal = not (same_proposal same earlier proposal)
  replaces (FixedProposal earlier) proposal = false

  -- whether one proposal, or none, is selected in both states
  abbrev pub same_selected : Option (Proposal D) → Option (Proposal D) → Bool
  same_selected None None = true
  same_selected (Some p) (Some q) = same_proposal same p q
  same_selected _ _ = false

  -- whether the proposal is the selected one, where one is selected
  abbrev pub is_selected : Option (Proposal D) → Proposal D → Option Bool
  is_selected None proposal = None
  is_selected (Some selected) proposal = Some (same_proposal same selected proposal)
