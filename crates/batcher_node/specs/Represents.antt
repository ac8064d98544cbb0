-- When a node represents a history of its calls, and how it goes on with one more.
use Rattle.std.specs.Prelude.{◌≡◌, ◌≤◌, ◌<◌, ◌⊎◌, ⊤, ℕ, Bool, true, false, cond, [], ◌∷◌, length}
use Rattle.std.specs.Prelude.{Option, Some, None, is_some, is_none, Ok, MatchOption}
use Rattle.std.specs.declared.cmp.Ordering.{Ordering}
use Rattle.batcher.specs.positions.Participant.{Participant}
use Rattle.batcher.specs.positions.Round.{Round}
use Rattle.batcher.specs.messages.Vote.{Vote}
use Rattle.batcher.specs.messages.Certificate.{Certificate}
use Rattle.batcher.specs.messages.Activity.{Activity}
use Rattle.batcher.specs.messages.Proposal.{Proposal}
use Rattle.batcher.specs.votes.Outcome.{Outcome}
use Rattle.batcher.specs.votes.Mode.{Mode}
use Rattle.batcher.specs.Meaning.{Meaning}
use Rattle.batcher.specs.Config.{Config, config}
use Rattle.batcher.specs.Lists.{is_empty}
use Rattle.batcher.specs.Votes.{subject_of, subject_certified, round_in, kind_certified}
use Rattle.batcher.specs.Steps.{report_by, leader_set_answer}
use Rattle.batcher.specs.Selection.{is_certified, leader_of}
use Rattle.batcher.specs.Verifiers.{certifies_itself}
use Rattle.batcher.specs.RoundState.{RoundView}
use Rattle.batcher.specs.History.{History}
use Rattle.batcher.specs.Answers.{IsPossible, needs_memory, network_answer, own_answer}
use Rattle.batcher.specs.Answers.{certificate_answer}
use Rattle.batcher.specs.calls.Call.{Call}
use Rattle.batcher.specs.calls.Call.TheVariants.{Certificate as CertificateCall}
use Rattle.batcher.specs.calls.Call.TheVariants.{Construct as ConstructCall}
use Rattle.batcher.specs.calls.Call.TheVariants.{Network as NetworkCall}
use Rattle.batcher.specs.Represents.{Represents}
use Rattle.batcher_node.specs.declared.answers.Ahead.{Ahead}
use Rattle.batcher_node.specs.declared.answers.Ahead.TheVariants.{Certified, Forged as ForgedAhead}
use Rattle.batcher_node.specs.declared.answers.Receipt.{Receipt}
use Rattle.batcher_node.specs.declared.answers.Receipt.TheVariants.{Answered, Outside, Dropped}
use Rattle.batcher_node.specs.declared.answers.Receipt.TheVariants.{Unknown}
use Rattle.batcher_node.specs.declared.answers.Verdict.{Verdict}
use Rattle.batcher_node.specs.declared.answers.Verdict.TheVariants.{Recorded, Forged, Known}
use Rattle.batcher_node.specs.declared.answers.Cast.{Cast}
use Rattle.batcher_node.specs.declared.answers.Cast.TheVariants.{ToSend, Known as KnownVote}
use Rattle.batcher_node.specs.declared.answers.Cast.TheVariants.{Outside as OutsideVote}
use Rattle.batcher_node.specs.declared.slot.Slot.{Slot}
use Rattle.batcher_node.specs.Windows.{is_ahead, is_of, mode_now, numbered}
use Rattle.batcher_node.specs.Events.{NodeEvent, started, vote_came, certificate_came, vote_cast}
use Rattle.batcher_node.specs.Events.{forgery_came}
use Rattle.batcher_node.specs.Events.{view_entered, view_finalized, constructed, proposal_forwarded}
use Rattle.batcher_node.specs.Events.{NodeHistory, view_history, peer_in, cause_in, window_in}
use Rattle.batcher_node.specs.Nodes.{NodeView, NodeConfig, cause_at, due_after, slot_at, IsNext}
use Rattle.batcher_node.specs.Nodes.{IsTended, node_config}

-- whether the round of a history has to be looked at
abbrev pub is_to_be_tried : {D K G C : Type 0} → History D K G C → Bool
is_to_be_tried [] = false
is_to_be_tried (event ∷ past) = due_after event (is_to_be_tried past)

-- An own vote is to be sent where it is reported.
abbrev pub cast_by : {G D : Type 0} → Option (Activity G D) → Cast G D
cast_by None = KnownVote
cast_by (Some report) = ToSend report

module _ {D K G C : Type 0} (x : NodeConfig D K G C) where
  -- The mode of a view's round: what it was when something was first said in the view.
  abbrev pub mode_of : NodeHistory D K G C → ℕ → Mode
  mode_of [] view = mode_now x.retains (record { finalized = 0; current = 0; ahead = 0 }) view
  mode_of (event ∷ past) view =
      cond (is_empty (view_history view (event ∷ past)))
      (mode_now x.retains (window_in (event ∷ past)) view) (mode_of past view)

  -- the configuration of the round of a view
  abbrev pub config_of : NodeHistory D K G C → ℕ → Config D K G C
  config_of past view =
      config x.meaning x.compare_keys x.same_signature x.same_digest (numbered x.epoch view)
      (mode_of past view)

  -- whether a message of the number is of the epoch, and of a view in the window
  abbrev pub is_within : NodeHistory D K G C → Round → Bool
  is_within past number = is_of x.epoch (window_in past) number

  -- What a message is answered, from its sender and of a number: one of somebody who takes no part
  -- isn't looked at, and nor is one of a peer that is blocked.
  abbrev pub receipt_from : {A : Type 0} → NodeHistory D K G C → Option Participant → Round → A
      → Receipt A
  receipt_from past None number answer = Unknown
  receipt_from past (Some i) number answer =
      cond (is_some (cause_in x past i.0)) Dropped
      (cond (is_within past number) (Answered answer) Outside)

  abbrev pub receipt : {A : Type 0} → NodeHistory D K G C → K → Round → A → Receipt A
  receipt past peer number answer = receipt_from past (peer_in x peer) number answer

  -- what is answered to a certificate: one of a kind that its view has isn't looked at either
  abbrev pub verdict : NodeHistory D K G C → Certificate C D → Verdict
  verdict past certificate =
      let view = (round_in (subject_certified certificate)).view.0 in
      cond (is_certified (view_history view past) (kind_certified certificate)) Known
      (cond (certifies_itself x.meaning certificate)
      (Recorded (certificate_answer (config_of past view) (view_history view past) certificate))
      Forged)

  -- whether a peer takes part and isn't blocked
  abbrev pub is_unblocked : NodeHistory D K G C → Option Participant → Bool
  is_unblocked past None = false
  is_unblocked past (Some i) = is_none (cause_in x past i.0)

  -- A certificate is a forgery from beyond the window, where its sender is free.
  pub record IsForgery (past : NodeHistory D K G C) (peer : K) (certificate : Certificate C D)
      : Type 0 where
    pub free : is_unblocked past (peer_in x peer) ≡ true
    pub ahead :
        is_ahead x.epoch (window_in past) (round_in (subject_certified certificate)) ≡ true
    pub forged : certifies_itself x.meaning certificate ≡ false

  -- What an event is answered, by those before it: as the history of its view names.
  abbrev pub IsNamed : NodeHistory D K G C → NodeEvent D K G C → Type 0
  IsNamed past (vote_came peer vote answer) =
      let number = round_in (subject_of vote) in
      answer ≡ receipt past peer number
      (network_answer (config_of past number.view.0) (view_history number.view.0 past) peer vote)
  IsNamed past (certificate_came peer certificate answer) =
      let number = round_in (subject_certified certificate) in
      answer ≡ receipt past peer number (verdict past certificate)
  IsNamed past (forgery_came peer certificate) = IsForgery past peer certificate
  IsNamed past (vote_cast vote outcome report) =
      let number = round_in (subject_of vote) in
      (is_within past number ≡ true)
      × ((own_answer (config_of past number.view.0) (view_history number.view.0 past) vote
      ≡ Ok outcome)
      × (report ≡ report_by outcome vote))
  IsNamed past (view_entered view leader) =
      ((window_in past).finalized ≤ view)
      × (leader_set_answer (leader_of (view_history view past)) leader ≡ Ok tt)
  IsNamed past (constructed view given) =
      (is_to_be_tried (view_history view past) ≡ true)
      × ((lower : ℕ) → (window_in past).finalized ≤ lower → lower < view
      → is_to_be_tried (view_history lower past) ≡ false)
  IsNamed past (proposal_forwarded view me given) = is_empty (view_history view past) ≡ false
  IsNamed past (started window) = past ≡ []
  IsNamed past (view_finalized view) = ⊤

  -- each event, by those before it
  abbrev pub AreNamed : NodeHistory D K G C → Type 0
  AreNamed [] = ⊤
  AreNamed (event ∷ past) = IsNamed past event × AreNamed past

  -- A view's round represents what was called in the view, which is something.
  pub record ViewRepresents {S : Type 0} (past : NodeHistory D K G C) (view : ℕ)
      (slot : Slot (RoundView S G D)) : Type 0 where
    pub begun : is_empty (view_history view past) ≡ false
    pub mode_is : slot.round.mode ≡ mode_of past view
    pub changed_is : slot.changed ≡ is_to_be_tried (view_history view past)
    pub represents : Represents (config_of past view) (view_history view past) slot.round.holds

  -- A node represents a history where each view does by itself. From the finalized view on, a
  -- view without a round has no history.
  pub record NodeRepresents {S : Type 0} (past : NodeHistory D K G C)
      (node : NodeView S G D) : Type 0
    where
      pub window_is : node.window ≡ window_in past
      pub blocked_are :
          (i : ℕ) → i < length x.meaning.participants
          → cause_at node.blocked i ≡ cause_in x past i
      pub answered : AreNamed past
      pub possible : (view : ℕ) → IsPossible (config_of past view) (view_history view past)
      pub views :
          (view : ℕ) → node.window.finalized ≤ view
          → MatchOption (slot_at node.rounds view) (view_history view past ≡ [])
          (ViewRepresents past view)

  -- There is a history that the node represents.
  pub record HasHistory {S : Type 0} (node : NodeView S G D) : Type 0 where
    pub past : NodeHistory D K G C
    pub represents : NodeRepresents past node

  -- A call that is answered leaves a node that represents the longer history, whatever history it
  -- represented before.
  abbrev pub NodeMeets : {S : Type 0} → NodeView S G D → NodeEvent D K G C → NodeView S G D → Type 0
  NodeMeets old event new =
      (past : NodeHistory D K G C) → NodeRepresents past old → NodeRepresents (event ∷ past) new

  -- What is said of each history that a node represents.
  abbrev pub ForEachNodeHistory : {S : Type 0} → NodeView S G D → (NodeHistory D K G C → Type 0)
      → Type 0
  ForEachNodeHistory node holds = (past : NodeHistory D K G C) → NodeRepresents past node
      → holds past

  -- What is said of some history that a node represents. There is one.
  abbrev pub ForSomeNodeHistory : {S : Type 0} → NodeView S G D → (NodeHistory D K G C → Type 0)
      → Type 0
  ForSomeNodeHistory node holds = (h : HasHistory node) × holds h.past

  -- An own vote that is answered leaves a node that represents the longer history: one that is to
  -- be sent was reported as the first of its kind and signer, and one that is known wasn't.
  abbrev pub SimulatesCast : {S : Type 0} → NodeView S G D → Vote G D → Cast G D → NodeView S G D
      → Type 0
  SimulatesCast old vote (ToSend report) new =
      (outcome : Outcome) × NodeMeets old (vote_cast vote outcome (Some report)) new
  SimulatesCast old vote KnownVote new =
      (outcome : Outcome) × NodeMeets old (vote_cast vote outcome None) new
  SimulatesCast old vote OutsideVote new =
      (is_of x.epoch old.window (round_in (subject_of vote)) ≡ false) × (new ≡ old)

  -- The proposal of a view is handed on by its round. Where the view has none, there is nothing to
  -- hand on, and nothing changes.
  abbrev pub SimulatesForward : {S : Type 0} → NodeView S G D → ℕ → Participant
      → Option (Proposal D)
      → NodeView S G D → Type 0
  SimulatesForward old view me given new =
      MatchOption (slot_at old.rounds view) ((given ≡ None) × (new ≡ old))
      (λ slot. NodeMeets old (proposal_forwarded view me given) new)

  -- whether a message is looked at: its sender takes part and isn't blocked, and it is of the epoch
  -- and of a view in the window
  abbrev pub is_heard : {S : Type 0} → NodeView S G D → Option Participant → Bool
  is_heard node None = false
  is_heard node (Some i) = is_none (cause_at node.blocked i.0)

  abbrev pub IsHeard : {S : Type 0} → NodeView S G D → K → Round → Type 0
  IsHeard node peer number =
      (is_heard node (peer_in x peer) ≡ true) × (is_of x.epoch node.window number ≡ true)

  -- What a certificate is answered as one from beyond the window: whether it certifies what it
  -- names. One from elsewhere isn't looked at, nor one whose sender takes no part or is blocked.
  abbrev pub ahead_answer_of : {S : Type 0} → NodeView S G D → Option Participant
      → Certificate C D → Receipt Ahead
  ahead_answer_of node None certificate = Unknown
  ahead_answer_of node (Some i) certificate =
      cond (is_some (cause_at node.blocked i.0)) Dropped
      (cond (is_ahead x.epoch node.window (round_in (subject_certified certificate)))
      (Answered (cond (certifies_itself x.meaning certificate) Certified ForgedAhead)) Outside)

  abbrev pub ahead_answer : {S : Type 0} → NodeView S G D → K → Certificate C D → Receipt Ahead
  ahead_answer node peer certificate = ahead_answer_of node (peer_in x peer) certificate

  -- A call in a view may need memory: for a round, where the view has none, or as the history of
  -- the view says, whichever history the node represents.
  abbrev pub MayNeedIn : {S : Type 0} → NodeView S G D → ℕ → Call K G C D → Type 0
  MayNeedIn node view call =
      (slot_at node.rounds view ≡ None)
      ⊎ ForEachNodeHistory node (λ past.
      needs_memory (config_of past view) (view_history view past) call ≡ true)

  -- A vote is looked at, and may need memory. A certificate that certifies what it names is looked
  -- at too, and may need some.
  pub record VoteMayNeed {S : Type 0} (node : NodeView S G D) (peer : K) (vote : Vote G D)
      : Type 0 where
    pub heard : IsHeard node peer (round_in (subject_of vote))
    pub needs : MayNeedIn node (round_in (subject_of vote)).view.0 (NetworkCall peer vote)

  pub record CertificateMayNeed {S : Type 0} (node : NodeView S G D) (peer : K)
      (certificate : Certificate C D) : Type 0 where
    pub certifies : certifies_itself x.meaning certificate ≡ true
    pub heard : IsHeard node peer (round_in (subject_certified certificate))
    pub needs :
        MayNeedIn node (round_in (subject_certified certificate)).view.0
        (CertificateCall certificate)

  -- The next construction may need memory.
  pub record NextMayNeed {S : Type 0} (node : NodeView S G D) : Type 0 where
    pub view : ℕ
    pub next : IsNext node.rounds view
    pub needs : MayNeedIn node view ConstructCall

-- What each node keeps true: its rounds are tended, each participant has a place for a cause, and
-- there is a history that it represents.
pub record IsNode {S D K G C : Type 0} (meaning : S → Meaning D K G C)
    (compare_keys : K → K → Ordering) (same_signature : G → G → Bool) (same_digest : D → D → Bool)
    (node : NodeView S G D) : Type 0 where
  pub tended :
      IsTended (length (meaning node.scheme).participants) node.scheme node.epoch node.window
      node.rounds
  pub each : length node.blocked ≡ length (meaning node.scheme).participants
  pub history : HasHistory (node_config meaning compare_keys same_signature same_digest node) node
