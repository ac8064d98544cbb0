-- What is promised of a node after any history of its calls.
use Rattle.std.specs.Prelude.{◌≡◌, ◌≤◌, ◌⊎◌, ⊤, ℕ, true, false, List, [], ◌∷◌, ◌++◌, length, Some}
use Rattle.std.specs.Prelude.{is_some, IfSome}
use Rattle.std.specs.List.{AllPass}
use Rattle.batcher.specs.Lists.{is_some_and}
use Rattle.batcher.specs.Eligible.{ready_kind}
use Rattle.batcher.specs.Honest.{sent_bad_vote}
use Rattle.batcher.specs.positions.Participant.{Participant}
use Rattle.batcher.specs.Config.{sender_in}
use Rattle.batcher.specs.Votes.{subject_of, round_in}
use Rattle.batcher.specs.Verifiers.{certifies_itself}
use Rattle.batcher.specs.Promises.{gave_cause, ends_in_constructions}
use Rattle.batcher.specs.messages.Certificate.{Certificate}
use Rattle.batcher.specs.messages.Kind.{Kind}
use Rattle.batcher.specs.CertificateTiming.{is_due}
use Rattle.batcher.specs.RunContract.{IsPromised}
use Rattle.batcher_node.specs.declared.answers.Receipt.TheVariants.{Answered}
use Rattle.batcher_node.specs.declared.answers.Verdict.TheVariants.{Forged}
use Rattle.batcher_node.specs.declared.answers.Cause.{Cause}
use Rattle.batcher_node.specs.declared.answers.Cause.TheVariants.{Vote as ForVote}
use Rattle.batcher_node.specs.declared.answers.Cause.TheVariants.{Certificate as ForCertificate}
use Rattle.batcher_node.specs.declared.answers.Cause.TheVariants.{Signature as ForSignature}
use Rattle.batcher_node.specs.Events.{NodeEvent, vote_came, certificate_came, constructed}
use Rattle.batcher_node.specs.Events.{NodeHistory, forgery_came, view_history, is_peer}
use Rattle.batcher_node.specs.Nodes.{NodeView, NodeConfig, IsAtRest, cause_at}
use Rattle.batcher_node.specs.Represents.{NodeRepresents, config_of, is_to_be_tried}
use Rattle.batcher_node.specs.Sending.{ToSendAgree}

module _ {D K G C : Type 0} (x : NodeConfig D K G C) where
  -- Whom an event blocks gave cause: by what it did itself in the view of its vote, with this vote
  -- at the latest; by sending a certificate that doesn't certify what it names; or by sending a
  -- vote in its own name, of the view and the kind of a batch, that doesn't attest.
  abbrev pub IsForCause : NodeHistory D K G C → NodeEvent D K G C → Type 0
  IsForCause past (vote_came peer vote (Answered admission)) =
      let view = (round_in (subject_of vote)).view.0 in
      let event : NodeEvent D K G C = vote_came peer vote (Answered admission) in
      is_some admission.block ≡ true → (i : Participant)
      → sender_in (config_of x (event ∷ past) view) peer ≡ Some i
      → gave_cause (config_of x (event ∷ past) view) (view_history view (event ∷ past)) i.0 ≡ true
  IsForCause past (certificate_came peer certificate (Answered Forged)) =
      certifies_itself x.meaning certificate ≡ false
  IsForCause past (forgery_came peer certificate) =
      certifies_itself x.meaning certificate ≡ false
  IsForCause past (constructed view (Some batch)) =
      AllPass (λ i. is_some_and (ready_kind (config_of x past view) (view_history view past))
      (λ kind. sent_bad_vote (config_of x past view) (view_history view past) kind i.0))
      batch.invalid
  IsForCause past event = ⊤

  -- each event, by those before it
  abbrev pub AreForCause : NodeHistory D K G C → Type 0
  AreForCause [] = ⊤
  AreForCause (event ∷ past) = IsForCause past event × AreForCause past

  -- What holds of the history of a node: in each view all that is promised of a round, and who is
  -- blocked gave cause, in some view.
  pub record IsNodePromised (past : NodeHistory D K G C) : Type 0 where
    pub each_view : (view : ℕ) → IsPromised (config_of x past view) (view_history view past)
    pub blocked_for_cause : AreForCause past
    -- A view that hasn't to be looked at has a certificate of each kind of which a quorum of votes
    -- that count is valid.
    pub rested_are_complete :
        (view : ℕ) → is_to_be_tried (view_history view past) ≡ false
        → (kind : Kind) → is_due (config_of x past view) (view_history view past) kind ≡ false
    -- No view is constructed five times in a row: it rests after four at most.
    pub few_in_a_row : (view : ℕ) → ends_in_constructions 5 (view_history view past) ≡ false
    -- No two votes that are to be sent contradict each other, of whatever views they are.
    pub to_send_agree : ToSendAgree past

  -- Where a node rests, each view from the finalized one on has a certificate of each kind of which
  -- a quorum of votes that count is valid. No vote of a skipped view counts.
  abbrev pub IsComplete : {S : Type 0} → NodeHistory D K G C → NodeView S G D → Type 0
  IsComplete past node =
      (view : ℕ) → node.window.finalized ≤ view
      → (kind : Kind) → is_due (config_of x past view) (view_history view past) kind ≡ false

  -- In a view the participant of an index named another one, or contradicted itself.
  pub record VotedWithCause (past : NodeHistory D K G C) (i : ℕ) : Type 0 where
    pub view : ℕ
    pub gave : gave_cause (config_of x past view) (view_history view past) i ≡ true

  -- The last event is a certificate that it sent, of a view in the window or of one beyond it, and
  -- that doesn't certify what it names.
  pub record SentForged (past : NodeHistory D K G C) (i : ℕ) : Type 0 where
    pub key : K
    pub is_sender : is_peer x key i ≡ true
    pub certificate : Certificate C D
    pub forged : certifies_itself x.meaning certificate ≡ false
    pub before : NodeHistory D K G C
    pub came :
        (past ≡ certificate_came key certificate (Answered Forged) ∷ before)
        ⊎ (past ≡ forgery_came key certificate ∷ before)

  -- In a view it sent a vote in its own name that doesn't attest.
  pub record SentBadVote (past : NodeHistory D K G C) (i : ℕ) : Type 0 where
    pub view : ℕ
    pub kind : Kind
    pub sent : sent_bad_vote (config_of x past view) (view_history view past) kind i ≡ true

  -- What it did that it is blocked for.
  abbrev pub GaveCauseFor : Cause → NodeHistory D K G C → ℕ → Type 0
  GaveCauseFor (ForVote reason) past i = VotedWithCause past i
  GaveCauseFor ForCertificate past i = SentForged past i
  GaveCauseFor ForSignature past i = SentBadVote past i

  -- It did so by some time of a history.
  pub record HadGivenCause (past : NodeHistory D K G C) (i : ℕ) (cause : Cause) : Type 0 where
    pub later : NodeHistory D K G C
    pub earlier : NodeHistory D K G C
    pub is_part : past ≡ later ++ earlier
    pub gave : GaveCauseFor cause earlier i

  -- All that is promised holds of a node and of a history that it represents: whoever is blocked
  -- had given cause in it, and no quorum of its votes is lost where the node rests.
  pub record KeepsPromises {S : Type 0} (past : NodeHistory D K G C) (node : NodeView S G D)
      : Type 0
    where
      pub promised : IsNodePromised past
      pub blocked_gave_cause : (i : ℕ) → IfSome (cause_at node.blocked i) (HadGivenCause past i)
      pub complete_at_rest : IsAtRest node → IsComplete past node

module _ {S D K G C : Type 0} (round_config : NodeView S G D → NodeConfig D K G C)
    (participants : S → List K) where
  -- What holds of a node of which somebody takes part, whatever history it represents.
  abbrev pub HoldsOfAll : (NodeHistory D K G C → NodeView S G D → Type 0) → Type 0
  HoldsOfAll holds =
      (node : NodeView S G D) → 1 ≤ length (participants node.scheme)
      → (past : NodeHistory D K G C) → NodeRepresents (round_config node) past node
      → holds past node
