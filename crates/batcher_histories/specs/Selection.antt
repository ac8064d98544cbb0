-- The leader, the selected proposal with its source, what was certified, forwarded and released.
use Rattle.std.specs.Prelude.{Bool, false, not, cond, ◌&&◌, List, [], ◌∷◌, ◌++◌, Option, Some, None}
use Rattle.std.specs.Prelude.{is_some, option_and_then, filter}
use Rattle.std.specs.List.{list_any}
use Rattle.std.specs.Option.{option_or}
use Rattle.batcher_types.specs.declared.positions.Participant.{Participant}
use Rattle.batcher_types.specs.declared.messages.Proposal.{Proposal}
use Rattle.batcher_types.specs.declared.messages.Vote.{Vote}
use Rattle.batcher_types.specs.declared.messages.Vote.TheVariants.{Finalize as FinalizeVote}
use Rattle.batcher_types.specs.declared.messages.Certificate.{Certificate}
use Rattle.batcher_types.specs.declared.messages.Kind.{Kind}
use Rattle.batcher_types.specs.declared.messages.Kind.TheVariants.{Notarization}
use Rattle.batcher_votes.specs.declared.verifier.ProposalState.{ProposalState}
use Rattle.batcher_votes.specs.declared.verifier.ProposalState.TheVariants.{Unknown}
use Rattle.batcher_votes.specs.declared.verifier.ProposalState.TheVariants.{Leader as LeadersProposal}
use Rattle.batcher_votes.specs.declared.verifier.ProposalState.TheVariants.{Certificate as FixedProposal}
use Rattle.batcher_histories.specs.declared.calls.Call.{Call}
use Rattle.batcher_histories.specs.declared.calls.Call.TheVariants.{Own as OwnCall}
use Rattle.batcher_histories.specs.declared.calls.Call.TheVariants.{Leader as LeaderCall}
use Rattle.batcher_histories.specs.declared.answers.Answer.{Answer}
use Rattle.batcher_histories.specs.declared.answers.Answer.TheVariants.{Forward as ForwardAnswer}
use Rattle.batcher_histories.specs.Config.{Config}
use Rattle.batcher_types.specs.Lists.{is_some_and}
use Rattle.batcher_types.specs.Votes.{is_kind, kind_of, subject_of, proposal_in, kind_certified}
use Rattle.batcher_types.specs.Votes.{subject_certified, is_for}
use Rattle.batcher_votes.specs.ProposalStates.{proposal_of, replaces}
use Rattle.batcher_votes.specs.TrackerSteps.{is_skipped, is_released_in}
use Rattle.batcher_histories.specs.History.{Event, History, recorded_certificate, certificate_given}
use Rattle.batcher_histories.specs.FirstVotes.{first_votes, first_vote}

-- Fixing evidence goes before the leader's vote.
abbrev pub selection_by : {D : Type 0} → Option (Proposal D) → Option (Proposal D) → ProposalState D
selection_by (Some fixed) leaders = FixedProposal fixed
selection_by None (Some leaders) = LeadersProposal leaders
selection_by None None = Unknown

abbrev pub forwards : {G C D : Type 0} → Answer G C D → Bool
forwards (ForwardAnswer proposal) = is_some proposal
forwards answer = false

module _ {D K G C : Type 0} where
  abbrev pub leader_named : Call K G C D → Option Participant
  leader_named (LeaderCall participant) = Some participant
  leader_named call = None

  -- the participant of the first leader call
  abbrev pub leader_of : History D K G C → Option Participant
  leader_of [] = None
  leader_of (event ∷ past) = option_or (leader_of past) (leader_named event.0)

  -- the certificate of an event, recorded or given
  abbrev pub certificate_of : Event D K G C → Option (Certificate C D)
  certificate_of event = option_or (recorded_certificate event.0) (certificate_given event.1)

  -- whether a certificate of the kind was recorded or given
  abbrev pub is_certified : History D K G C → Kind → Bool
  is_certified past kind =
      list_any (λ event. is_some_and (certificate_of event) (λ c. is_kind (kind_certified c) kind))
      past

  -- an own finalize fixes its proposal
  abbrev pub finalized_by : Call K G C D → Option (Proposal D)
  finalized_by (OwnCall (FinalizeVote vote)) = Some vote.proposal
  finalized_by call = None

  -- Evidence that fixes a proposal: an own finalize, or a certificate with a proposal.
  abbrev pub fixing_evidence : Event D K G C → Option (Proposal D)
  fixing_evidence event =
      option_or (finalized_by event.0) (option_and_then (λ c. proposal_in (subject_certified c))
      (certificate_of event))

  -- the proposal of the first fixing evidence
  abbrev pub fixed_proposal : History D K G C → Option (Proposal D)
  fixed_proposal [] = None
  fixed_proposal (event ∷ past) = option_or (fixed_proposal past) (fixing_evidence event)

  -- whether a forward call has answered a proposal
  abbrev pub was_forwarded : History D K G C → Bool
  was_forwarded past = list_any (λ event. forwards event.1) past

module _ {D K G C : Type 0} (x : Config D K G C) where
  -- the proposal of the leader's first notarize, of which a skipped round takes no notice
  abbrev pub leaders_proposal : History D K G C → Option (Proposal D)
  leaders_proposal past =
      cond (is_skipped x.mode) None
      (option_and_then (λ v. proposal_in (subject_of v))
      (option_and_then (λ i. first_vote x past Notarization i.0) (leader_of past)))

  -- what is selected, and whether it is fixed
  abbrev pub selection : History D K G C → ProposalState D
  selection past = selection_by (fixed_proposal past) (leaders_proposal past)

  abbrev pub selected_proposal : History D K G C → Option (Proposal D)
  selected_proposal past = proposal_of (selection past)

  -- the proposal that takes the place of the leader's at an event
  abbrev pub replacement : History D K G C → Event D K G C → Option (Proposal D)
  replacement past event =
      option_and_then (λ p. cond (replaces x.same_digest (selection past) p) (Some p) None)
      (fixing_evidence event)

  -- The first votes for it are restored, of the kinds that aren't certified by then.
  abbrev pub is_restored : History D K G C → Event D K G C → Vote G D → Bool
  is_restored past event vote =
      is_some_and (replacement past event) (λ p. is_for x.same_digest p vote)
      && not (is_certified (event ∷ past) (kind_of vote))

  abbrev pub votes_restored_by : History D K G C → Event D K G C → List (Vote G D)
  votes_restored_by past event = filter (is_restored past event) (first_votes x past)

  -- the votes that a replacement has restored
  abbrev pub restored_votes : History D K G C → List (Vote G D)
  restored_votes [] = []
  restored_votes (event ∷ past) = votes_restored_by past event ++ restored_votes past

  -- whether votes of the kind are kept as facts alone
  abbrev pub is_released : History D K G C → Kind → Bool
  is_released past kind = is_released_in x.mode (is_certified past kind)
