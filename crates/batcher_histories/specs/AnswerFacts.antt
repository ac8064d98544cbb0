-- What else holds of every list of calls on a fresh round, of what it was answered.
use Rattle.std.specs.Prelude.{◌≡◌, ◌≢◌, ◌≤◌, ⊤, Bool, true, false, not, cond, ◌&&◌, List, [], ◌∷◌}
use Rattle.std.specs.Prelude.{◌++◌, Option, Some, None, IfSome, filter}
use Rattle.std.specs.List.{list_any, AllPass}
use Rattle.std.specs.Option.{option_or}
use Rattle.batcher_types.specs.declared.positions.Participant.{Participant}
use Rattle.batcher_types.specs.declared.messages.Proposal.{Proposal}
use Rattle.batcher_types.specs.declared.messages.Vote.{Vote}
use Rattle.batcher_types.specs.declared.messages.Kind.{Kind}
use Rattle.batcher_histories.specs.declared.answers.BlockReason.{BlockReason}
use Rattle.batcher_histories.specs.declared.answers.BlockReason.TheVariants.{ConflictingNotarize}
use Rattle.batcher_histories.specs.declared.answers.BlockReason.TheVariants.{ConflictingFinalize}
use Rattle.batcher_histories.specs.declared.answers.OwnFault.TheVariants.{Conflicting}
use Rattle.batcher_histories.specs.declared.calls.Call.{Call}
use Rattle.batcher_histories.specs.declared.calls.Call.TheVariants.{Network as NetworkCall}
use Rattle.batcher_histories.specs.declared.calls.Call.TheVariants.{Own as OwnCall}
use Rattle.batcher_histories.specs.declared.answers.Answer.{Answer}
use Rattle.batcher_histories.specs.declared.answers.Answer.TheVariants.{Network as NetworkAnswer}
use Rattle.batcher_histories.specs.declared.answers.Answer.TheVariants.{Own as OwnAnswer}
use Rattle.batcher_histories.specs.declared.answers.Answer.TheVariants.{OwnRefused}
use Rattle.batcher_histories.specs.declared.answers.Answer.TheVariants.{Certificate as CertificateAnswer}
use Rattle.batcher_histories.specs.declared.answers.Answer.TheVariants.{Forward as ForwardAnswer}
use Rattle.batcher_votes.specs.declared.verifier.ProposalState.TheVariants.{Certificate as FixedProposal}
use Rattle.batcher_histories.specs.Config.{Config}
use Rattle.batcher_types.specs.Lists.{count, is_some_and, SameElements}
use Rattle.batcher_types.specs.Votes.{kind_of, signer_of, subject_of, proposal_in, is_vote_of}
use Rattle.batcher_types.specs.Votes.{same_proposal, subject_certified}
use Rattle.batcher_histories.specs.Steps.{is_added}
use Rattle.batcher_histories.specs.History.{Event, History, history_after, batch_given}
use Rattle.batcher_histories.specs.History.{certificate_given, cast_votes}
use Rattle.batcher_histories.specs.FirstVotes.{first_vote, first_votes}
use Rattle.batcher_histories.specs.Selection.{forwards, selection, selected_proposal}
use Rattle.batcher_histories.specs.Eligible.{is_valid, was_invalid, eligible_votes, trials}
use Rattle.batcher_histories.specs.Eligible.{proven_votes, fresh_votes, ready_kind}
use Rattle.batcher_histories.specs.Promises.{AtEachEvent, AtEachTime, votes_cast}

-- whether both votes carry proposals, and not the same one
abbrev pub carry_different : {G D : Type 0} → (D → D → Bool) → Vote G D → Vote G D → Bool
carry_different same a b =
    is_some_and (proposal_in (subject_of a)) (λ p.
    is_some_and (proposal_in (subject_of b)) (λ q. not (same_proposal same p q)))

-- whether a block is for two votes with different proposals
abbrev pub is_conflict : BlockReason → Bool
is_conflict ConflictingNotarize = true
is_conflict ConflictingFinalize = true
is_conflict reason = false

abbrev pub proposal_forwarded : {G C D : Type 0} → Answer G C D → Option (Proposal D)
proposal_forwarded (ForwardAnswer proposal) = proposal
proposal_forwarded answer = None

module _ {D K G C : Type 0} where
  -- what holds of each call, also of a refused one, by the history before it and its answer
  abbrev pub AtEachCall : (History D K G C → Call K G C D → Answer G C D → Type 0)
      → History D K G C → List (Call K G C D) → List (Answer G C D) → Type 0
  AtEachCall holds past [] answers = ⊤
  AtEachCall holds past (call ∷ calls) [] = ⊤
  AtEachCall holds past (call ∷ calls) (answer ∷ answers) =
      holds past call answer × AtEachCall holds (history_after past call answer) calls answers

  -- the vote that is answered as one that conflicts: its sender is blocked, or it is refused
  abbrev pub conflict_answered : Call K G C D → Answer G C D → Option (Vote G D)
  conflict_answered (NetworkCall sender vote) (NetworkAnswer admission) =
      cond (is_some_and admission.block is_conflict) (Some vote) None
  conflict_answered (OwnCall vote) (OwnRefused Conflicting) = Some vote
  conflict_answered call answer = None

  -- the vote that is answered as added
  abbrev pub added_by : Event D K G C → List (Vote G D)
  added_by (NetworkCall sender vote, NetworkAnswer admission) = cond admission.added (vote ∷ []) []
  added_by (OwnCall vote, OwnAnswer outcome report) = cond (is_added outcome) (vote ∷ []) []
  added_by event = []

  -- all votes that were answered as added, the newest first
  abbrev pub votes_added : History D K G C → List (Vote G D)
  votes_added [] = []
  votes_added (event ∷ past) = added_by event ++ votes_added past

module _ {D K G C : Type 0} (x : Config D K G C) where
  -- the votes of a kind that can still make its certificate
  abbrev pub usable_votes : History D K G C → Kind → List (Vote G D)
  usable_votes past kind = fresh_votes x past kind ++ proven_votes x past kind

  -- whether the first vote of the kind and signer is there and doesn't attest
  abbrev pub has_bad_vote : History D K G C → Kind → Participant → Bool
  has_bad_vote past kind signer =
      is_some_and (first_vote x past kind signer.0) (λ v. not (is_valid x v))

  -- All whom a batch names invalid have a bad vote of its kind, which was the first ready one.
  abbrev pub NamesBadSigners : History D K G C → Event D K G C → Type 0
  NamesBadSigners past event =
      IfSome (batch_given event.1) (λ batch.
      AllPass (λ i. is_some_and (ready_kind x past) (λ kind. has_bad_vote past kind i))
      batch.invalid)

  -- A vote that is answered as one that conflicts was cast by the call, and its signer has cast
  -- another of its kind before, with another proposal.
  abbrev pub ConflictsWithAnother : History D K G C → Call K G C D → Answer G C D → Type 0
  ConflictsWithAnother past call answer =
      IfSome (conflict_answered call answer) (λ vote.
      (cast_votes x call ≡ vote ∷ [])
      × (list_any
      (λ v. is_vote_of (kind_of vote) (signer_of vote) v && carry_different x.same_digest v vote)
      (votes_cast x past) ≡ true))

  -- the same of a call that was made: no refused one is in a history
  abbrev pub ConflictAnswered : History D K G C → Event D K G C → Type 0
  ConflictAnswered past event = ConflictsWithAnother past event.0 event.1

  -- A certificate that is given with a proposal is for the selected one, if there is any.
  abbrev pub GivesSelected : History D K G C → Event D K G C → Type 0
  GivesSelected past event =
      IfSome (certificate_given event.1) (λ c. IfSome (proposal_in (subject_certified c)) (λ p.
      option_or (selected_proposal x past) (Some p) ≡ Some p))

  -- A proposal that is forwarded is the selected one.
  abbrev pub ForwardsSelected : History D K G C → Event D K G C → Type 0
  ForwardsSelected past event =
      IfSome (proposal_forwarded event.1) (λ p. selected_proposal x past ≡ Some p)

  -- Once a proposal is fixed, no certificate that is recorded is answered as changing it.
  abbrev pub ChangesNoFixed : History D K G C → Event D K G C → Type 0
  ChangesNoFixed past event =
      (p : Proposal D) → selection x past ≡ FixedProposal p → event.1 ≢ CertificateAnswer true

  -- What holds after each call.
  pub record HoldsThen (past : History D K G C) : Type 0 where
    pub proven_votes_attest : (kind : Kind) → AllPass (is_valid x) (proven_votes x past kind)
    -- No eligible vote is lost but those found invalid.
    pub usable_are_eligible :
        (kind : Kind)
        → SameElements (usable_votes past kind)
        (filter (λ v. not (was_invalid (trials x past) v)) (eligible_votes x past kind))

  -- What holds of every list of calls on a fresh round, over its history.
  pub record HoldsThroughout (past : History D K G C) : Type 0 where
    pub at_each_time : AtEachTime HoldsThen past
    pub conflicts_have_cause : AtEachEvent ConflictAnswered past
    -- The votes that are answered as added are those that no earlier one excludes, in order.
    pub added_are_first : votes_added past ≡ first_votes x past
    pub named_signers_are_bad : AtEachEvent NamesBadSigners past
    pub given_are_selected : AtEachEvent GivesSelected past
    pub forwarded_are_selected : AtEachEvent ForwardsSelected past
    pub fixed_are_not_changed : AtEachEvent ChangesNoFixed past
    -- One forward call at most answers a proposal.
    pub forwarded_at_most_once : count (λ event. forwards event.1) past ≤ 1
