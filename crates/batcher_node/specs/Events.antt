-- What happened to a node: its calls that were answered, the newest first.
use Rattle.std.specs.Prelude.{ℕ, Bool, cond, ◌==◌, List, [], ◌∷◌, ◌++◌, Option, Some, None, Ok}
use Rattle.std.specs.List.{list_any}
use Rattle.std.specs.Option.{option_map, option_map_or, option_or}
use Rattle.batcher.specs.positions.Participant.{Participant}
use Rattle.batcher.specs.messages.Vote.{Vote}
use Rattle.batcher.specs.messages.Certificate.{Certificate}
use Rattle.batcher.specs.messages.Activity.{Activity}
use Rattle.batcher.specs.messages.Proposal.{Proposal}
use Rattle.batcher.specs.verifier.Batch.{Batch}
use Rattle.batcher.specs.votes.Outcome.{Outcome}
use Rattle.batcher.specs.answers.Admission.{Admission}
use Rattle.batcher.specs.calls.Call.TheVariants.{Network as NetworkCall, Own as OwnCall}
use Rattle.batcher.specs.calls.Call.TheVariants.{Certificate as CertificateCall}
use Rattle.batcher.specs.calls.Call.TheVariants.{Leader as LeaderCall, Construct as ConstructCall}
use Rattle.batcher.specs.calls.Call.TheVariants.{Forward as ForwardCall}
use Rattle.batcher.specs.answers.Answer.TheVariants.{Network as NetworkAnswer, Own as OwnAnswer}
use Rattle.batcher.specs.answers.Answer.TheVariants.{Certificate as CertificateAnswer}
use Rattle.batcher.specs.answers.Answer.TheVariants.{Leader as LeaderAnswer}
use Rattle.batcher.specs.answers.Answer.TheVariants.{Construct as ConstructAnswer}
use Rattle.batcher.specs.answers.Answer.TheVariants.{Forward as ForwardAnswer}
use Rattle.batcher.specs.Lists.{is_some_and}
use Rattle.batcher.specs.Keys.{index_of}
use Rattle.batcher.specs.Votes.{subject_of, subject_certified, round_in}
use Rattle.batcher.specs.History.{Event, History}
use Rattle.batcher_node.specs.declared.window.Window.{Window}
use Rattle.batcher_node.specs.declared.answers.Receipt.{Receipt}
use Rattle.batcher_node.specs.declared.answers.Receipt.TheVariants.{Answered}
use Rattle.batcher_node.specs.declared.answers.Verdict.{Verdict}
use Rattle.batcher_node.specs.declared.answers.Verdict.TheVariants.{Recorded, Forged}
use Rattle.batcher_node.specs.declared.answers.Cause.{Cause}
use Rattle.batcher_node.specs.declared.answers.Cause.TheVariants.{Vote as ForVote}
use Rattle.batcher_node.specs.declared.answers.Cause.TheVariants.{Certificate as ForCertificate}
use Rattle.batcher_node.specs.declared.answers.Cause.TheVariants.{Signature as ForSignature}
use Rattle.batcher_node.specs.Nodes.{NodeConfig}
use Rattle.batcher_node.specs.Windows as windows

-- A call with its answer. One that was refused isn't among them, since it changes nothing.
pub data NodeEvent (D K G C : Type 0) : Type 0 where
  -- the node began with this window
  started : Window → NodeEvent D K G C
  -- a peer sent a vote, or a certificate
  vote_came : K → Vote G D → Receipt (Admission G D) → NodeEvent D K G C
  certificate_came : K → Certificate C D → Receipt Verdict → NodeEvent D K G C
  -- it sent a certificate from beyond the window that doesn't certify what it names
  forgery_came : K → Certificate C D → NodeEvent D K G C
  -- the node cast a vote, where its view was in the window
  vote_cast : Vote G D → Outcome → Option (Activity G D) → NodeEvent D K G C
  -- it entered a view with its leader, and a view was finalized
  view_entered : ℕ → Participant → NodeEvent D K G C
  view_finalized : ℕ → NodeEvent D K G C
  -- a construction in a view
  constructed : ℕ → Option (Batch (Certificate C D)) → NodeEvent D K G C
  -- a participant asked a view with a round for its proposal, to hand it on
  proposal_forwarded : ℕ → Participant → Option (Proposal D) → NodeEvent D K G C

abbrev pub NodeHistory : Type 0 → Type 0 → Type 0 → Type 0 → Type 0
NodeHistory D K G C = List (NodeEvent D K G C)

module _ {D K G C : Type 0} where
  -- an event of the view's round, where it is of the round of that number
  abbrev pub at_view : ℕ → ℕ → Event D K G C → History D K G C
  at_view view number event = cond (number == view) (event ∷ []) []

  -- the calls of a view's round that an event is
  abbrev pub view_history_by : ℕ → NodeEvent D K G C → History D K G C
  view_history_by view (vote_came peer vote (Answered admission)) =
      at_view view (round_in (subject_of vote)).view.0
      (NetworkCall peer vote, NetworkAnswer admission)
  view_history_by view (certificate_came peer certificate (Answered (Recorded changed))) =
      at_view view (round_in (subject_certified certificate)).view.0
      (CertificateCall certificate, CertificateAnswer changed)
  view_history_by view (vote_cast vote outcome report) =
      at_view view (round_in (subject_of vote)).view.0 (OwnCall vote, OwnAnswer outcome report)
  view_history_by view (view_entered number leader) =
      at_view view number (LeaderCall leader, LeaderAnswer (Ok tt))
  view_history_by view (constructed number given) =
      at_view view number (ConstructCall, ConstructAnswer given)
  view_history_by view (proposal_forwarded number me given) =
      at_view view number (ForwardCall me, ForwardAnswer given)
  view_history_by view event = []

  -- All calls of a view's round: its history.
  abbrev pub view_history : ℕ → NodeHistory D K G C → History D K G C
  view_history view [] = []
  view_history view (event ∷ past) = view_history_by view event ++ view_history view past

  abbrev pub window_after : Window → NodeEvent D K G C → Window
  window_after window (started first) = first
  window_after window (view_entered view leader) = windows.entered window view
  window_after window (view_finalized view) = windows.finalized window view
  window_after window event = window

  -- the window, by the views that were entered and finalized
  abbrev pub window_in : NodeHistory D K G C → Window
  window_in [] = record { finalized = 0; current = 0; ahead = 0 }
  window_in (event ∷ past) = window_after (window_in past) event

-- whose votes a batch found not to attest, if one was given
abbrev pub invalid_in : {C : Type 0} → Option (Batch C) → List Participant
invalid_in given = option_map_or (λ batch. batch.invalid) given []

module _ {D K G C : Type 0} (x : NodeConfig D K G C) where
  -- the participant with the key
  abbrev pub peer_in : K → Option Participant
  peer_in key = index_of x.compare_keys x.meaning.participants key

  -- whether the key is that of the participant of an index
  abbrev pub is_peer : K → ℕ → Bool
  is_peer key i = is_some_and (peer_in key) (λ p. p.0 == i)

  -- For what an event blocks the participant of an index: for a vote or a certificate that it sent,
  -- or since a batch found that its vote doesn't attest.
  abbrev pub cause_by : NodeEvent D K G C → ℕ → Option Cause
  cause_by (vote_came peer vote (Answered admission)) i =
      cond (is_peer peer i) (option_map ForVote admission.block) None
  cause_by (certificate_came peer certificate (Answered Forged)) i =
      cond (is_peer peer i) (Some ForCertificate) None
  cause_by (forgery_came peer certificate) i = cond (is_peer peer i) (Some ForCertificate) None
  cause_by (constructed view given) i =
      cond (list_any (λ p. p.0 == i) (invalid_in given)) (Some ForSignature) None
  cause_by event i = None

  -- for what it is blocked: for the first of them
  abbrev pub cause_in : NodeHistory D K G C → ℕ → Option Cause
  cause_in [] i = None
  cause_in (event ∷ past) i = option_or (cause_in past i) (cause_by event i)
