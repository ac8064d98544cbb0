-- What happens to a validator: what its voter does, what it gives to be done, and the answers.
use Rattle.std.specs.Prelude.{◌≡◌, ◌≤◌, ◌⊎◌, ◌+◌, ⊤, ℕ, cond, false, List, [], ◌∷◌, ◌++◌, Option}
use Rattle.std.specs.Prelude.{Some, None, max, nat_lt}
use Rattle.batcher.specs.Selection.{leader_of, selected_proposal}
use Rattle.batcher.specs.Votes.{subject_of}
use Rattle.batcher.specs.messages.Certificate.{Certificate}
use Rattle.batcher.specs.messages.Kind.{Kind}
use Rattle.batcher.specs.messages.Kind.TheVariants.{Finalization, Notarization, Nullification}
use Rattle.batcher.specs.messages.Proposal.{Proposal}
use Rattle.batcher.specs.messages.Subject.{Subject}
use Rattle.batcher.specs.positions.Participant.{Participant}
use Rattle.batcher.specs.positions.Round.{Round}
use Rattle.batcher_agreement.specs.Lives.{VoterEvent, VoterHistory, called, conduct_of, held_by}
use Rattle.batcher_agreement.specs.Lives.{node_history, verified}
use Rattle.batcher_agreement.specs.Policy.{Conduct, HasVoted}
use Rattle.batcher_node.specs.Events.{NodeHistory, view_finalized, view_history, window_in}
use Rattle.batcher_node.specs.Nodes.{NodeConfig}
use Rattle.batcher_node.specs.Represents.{config_of}
use Rattle.batcher_node.specs.declared.window.Window.{Window}
use Rattle.batcher_validator.specs.Resending.{is_again, is_sent_again, still_to_forward, turn_at}
use Rattle.batcher_validator.specs.Unsigned.{nothing_unsigned, with_refused}
use Rattle.batcher_validator.specs.declared.task.Task.{Task}
use Rattle.batcher_validator.specs.declared.task.Task.TheVariants.{Block, Cast, Enter, Final}
use Rattle.batcher_validator.specs.declared.task.Task.TheVariants.{Forward, Judge, Propose}
use Rattle.batcher_validator.specs.declared.task.Task.TheVariants.{SendCertificate, SendVote, Sign}
use Rattle.batcher_validator.specs.declared.task.Task.TheVariants.{Verify}
use Rattle.batcher_validator.specs.declared.unsigned.Unsigned.{Unsigned}

pub data ValidatorEvent (D K G C : Type 0) : Type 0 where
  -- it was made of a voter, which votes as this participant, and did this before
  began : Participant → VoterHistory D K G C → ValidatorEvent D K G C
  -- it keeps a certificate that it verified itself, from its disk or from who is ahead
  took : Certificate C D → ValidatorEvent D K G C
  -- its voter did this
  did : VoterEvent D K G C → ValidatorEvent D K G C
  -- it gave this to be done
  gave : Task G D → ValidatorEvent D K G C
  -- votes were verified, as far as there were any
  answered : ValidatorEvent D K G C
  -- this proposal is its own, or was judged to be valid
  chose : Proposal D → ValidatorEvent D K G C
  -- the time of this view is over
  expired : ℕ → ValidatorEvent D K G C
  -- this view was given up as it was entered, for its leader
  gave_up : ℕ → ValidatorEvent D K G C
  -- the signature of this, which was to be signed, isn't good
  refused : Subject D → ValidatorEvent D K G C
  -- what was sent may be lost, so a part of it is to be sent again
  again : ValidatorEvent D K G C

-- all that happened in a life, the newest first
abbrev pub ValidatorHistory : Type 0 → Type 0 → Type 0 → Type 0 → Type 0
ValidatorHistory D K G C = List (ValidatorEvent D K G C)

-- what is to be forwarded once a certificate was given to be sent
abbrev pub forward_with : Kind → Round → Option Round → Option Round
forward_with Notarization number before = Some number
forward_with Nullification number before = before
forward_with Finalization number before = before

-- of two proposals the one of the higher view, or the later one
abbrev pub later_of : {D : Type 0} → Option (Proposal D) → Proposal D → Option (Proposal D)
later_of None p = Some p
later_of (Some q) p = cond (nat_lt p.round.view.0 q.round.view.0) (Some q) (Some p)

module _ {D K G C : Type 0} where
  -- what its voter did, and what the voter's node was called for
  abbrev pub voter_history : ValidatorHistory D K G C → VoterHistory D K G C
  voter_history [] = []
  voter_history (began me before ∷ past) = before
  voter_history (did event ∷ past) = event ∷ voter_history past
  voter_history (event ∷ past) = voter_history past

  abbrev pub calls_in : ValidatorHistory D K G C → NodeHistory D K G C
  calls_in past = node_history (voter_history past)

  -- the window by then
  abbrev pub window_by : ValidatorHistory D K G C → Window
  window_by past = window_in (calls_in past)

  -- what its participant did, in this life and in earlier ones
  abbrev pub conduct_in : Conduct D → ValidatorHistory D K G C → Conduct D
  conduct_in earlier past = conduct_of (voter_history past) ++ earlier

  -- what its voter did before it began
  abbrev pub before_in : ValidatorHistory D K G C → VoterHistory D K G C
  before_in [] = []
  before_in (began me before ∷ past) = before
  before_in (event ∷ past) = before_in past

  -- what happened before a view was made the final one, last of all
  abbrev pub before_final : ValidatorHistory D K G C → ValidatorHistory D K G C
  before_final [] = []
  before_final (did (called (view_finalized view)) ∷ past) = past
  before_final (event ∷ past) = before_final past

  -- its participant had voted for the subject by then, in an earlier life
  abbrev pub HadVoted : Conduct D → ValidatorHistory D K G C → Subject D → Type 0
  HadVoted earlier past s = HasVoted (conduct_of (before_in past) ++ earlier) s

  -- what its voter did by these events
  abbrev pub only_did : VoterHistory D K G C → ValidatorHistory D K G C
  only_did [] = []
  only_did (event ∷ past) = did event ∷ only_did past

  -- what it took in: its voter verified and learned it, and it is kept
  abbrev pub only_took : List (Certificate C D) → ValidatorHistory D K G C
  only_took [] = []
  only_took (c ∷ held) = took c ∷ did (verified c) ∷ only_took held

  -- it has had a certificate since it began
  abbrev pub HasHad : ValidatorHistory D K G C → Certificate C D → Type 0
  HasHad [] c = ⊥
  HasHad (began me before ∷ past) c = ⊥
  HasHad (took held ∷ past) c = (held ≡ c) ⊎ HasHad past c
  HasHad (did event ∷ past) c = (held_by event ≡ Some c) ⊎ HasHad past c
  HasHad (event ∷ past) c = HasHad past c

  -- it gave the participant of an index to be blocked
  abbrev pub HasBlocked : ValidatorHistory D K G C → ℕ → Type 0
  HasBlocked [] i = ⊥
  HasBlocked (gave (Block who cause) ∷ past) i = (who.0 ≡ i) ⊎ HasBlocked past i
  HasBlocked (event ∷ past) i = HasBlocked past i

  -- it gave a proposal of this view as final, or one of a later view
  abbrev pub HasAnnouncedFrom : ValidatorHistory D K G C → ℕ → Type 0
  HasAnnouncedFrom [] view = ⊥
  HasAnnouncedFrom (gave (Final p) ∷ past) view =
      (view ≤ p.round.view.0) ⊎ HasAnnouncedFrom past view
  HasAnnouncedFrom (event ∷ past) view = HasAnnouncedFrom past view

  -- whose turn it is when what was sent is to be sent again
  abbrev pub turn_in : ValidatorHistory D K G C → ℕ
  turn_in [] = 0
  turn_in (again ∷ past) = turn_at (window_by past) (turn_in past) + 1
  turn_in (event ∷ past) = turn_in past

  -- the view from which on own votes were to be sent again, or 0
  abbrev pub resent_from : ValidatorHistory D K G C → ℕ
  resent_from [] = 0
  resent_from (again ∷ past) = (window_by past).current
  resent_from (event ∷ past) = resent_from past

  -- it gave a vote for the subject to be sent
  abbrev pub HasSentOnce : ValidatorHistory D K G C → Subject D → Type 0
  HasSentOnce [] s = ⊥
  HasSentOnce (gave (SendVote vote) ∷ past) s = (subject_of vote ≡ s) ⊎ HasSentOnce past s
  HasSentOnce (event ∷ past) s = HasSentOnce past s

  -- and once more, if it was to be sent again
  abbrev pub HasSent : ValidatorHistory D K G C → Subject D → Type 0
  HasSent [] s = ⊥
  HasSent (again ∷ past) s = (is_sent_again (window_by past) s ≡ false) × HasSentOnce past s
  HasSent (gave (SendVote vote) ∷ past) s = (subject_of vote ≡ s) ⊎ HasSent past s
  HasSent (event ∷ past) s = HasSent past s

  -- it gave a certificate of the kind and the round, and once more, if it was to be given again
  abbrev pub HasHanded : ValidatorHistory D K G C → (Kind × Round) → Type 0
  HasHanded [] key = ⊥
  HasHanded (again ∷ past) key =
      (is_again (window_by past) (turn_in past) key ≡ false) × HasHanded past key
  HasHanded (gave (SendCertificate kind number) ∷ past) key =
      ((kind, number) ≡ key) ⊎ HasHanded past key
  HasHanded (event ∷ past) key = HasHanded past key

  -- the round of the notarization that it gave to be sent, of which nothing was forwarded since
  abbrev pub to_forward : ValidatorHistory D K G C → Option Round
  to_forward [] = None
  to_forward (again ∷ past) =
      still_to_forward (window_by past) (turn_in past) (to_forward past)
  to_forward (gave (SendCertificate kind number) ∷ past) =
      forward_with kind number (to_forward past)
  to_forward (gave (Forward number) ∷ past) = None
  to_forward (event ∷ past) = to_forward past

  -- It gave what is notarized in a round to be forwarded, and once more, if its notarization was to
  -- be given again.
  abbrev pub HasForwarded : ValidatorHistory D K G C → Round → Type 0
  HasForwarded [] number = ⊥
  HasForwarded (again ∷ past) number =
      (is_again (window_by past) (turn_in past) (Notarization, number) ≡ false)
      × HasForwarded past number
  HasForwarded (gave (Forward other) ∷ past) number = (other ≡ number) ⊎ HasForwarded past number
  HasForwarded (event ∷ past) number = HasForwarded past number

  -- it gave a vote for the subject to be cast again
  abbrev pub HasRecast : ValidatorHistory D K G C → Subject D → Type 0
  HasRecast [] s = ⊥
  HasRecast (gave (Cast vote) ∷ past) s = (subject_of vote ≡ s) ⊎ HasRecast past s
  HasRecast (event ∷ past) s = HasRecast past s

  -- it gave this view to be entered, or a later one
  abbrev pub HasAskedFrom : ValidatorHistory D K G C → ℕ → Type 0
  HasAskedFrom [] view = ⊥
  HasAskedFrom (gave (Enter later) ∷ past) view = (view ≤ later.0) ⊎ HasAskedFrom past view
  HasAskedFrom (event ∷ past) view = HasAskedFrom past view

  -- it gave votes to be verified, and there is no answer yet
  abbrev pub IsVerifying : ValidatorHistory D K G C → Type 0
  IsVerifying [] = ⊥
  IsVerifying (gave Verify ∷ past) = ⊤
  IsVerifying (answered ∷ past) = ⊥
  IsVerifying (event ∷ past) = IsVerifying past

  -- as whom it votes
  abbrev pub me_in : ValidatorHistory D K G C → Option Participant
  me_in [] = None
  me_in (began me before ∷ past) = Some me
  me_in (event ∷ past) = me_in past

  -- what it gave to be signed, last of all, since it last was to send again
  abbrev pub last_to_sign : ValidatorHistory D K G C → Option (Subject D)
  last_to_sign [] = None
  last_to_sign (again ∷ past) = None
  last_to_sign (gave (Sign s) ∷ past) = Some s
  last_to_sign (event ∷ past) = last_to_sign past

  -- which signatures were refused, since it last was to send again
  abbrev pub unsigned_in : ValidatorHistory D K G C → Unsigned
  unsigned_in [] = nothing_unsigned
  unsigned_in (again ∷ past) = nothing_unsigned
  unsigned_in (refused s ∷ past) = with_refused (unsigned_in past) s
  unsigned_in (event ∷ past) = unsigned_in past

  -- the highest view whose time is over, or that was given up, or 0
  abbrev pub expired_in : ValidatorHistory D K G C → ℕ
  expired_in [] = 0
  expired_in (expired view ∷ past) = max (expired_in past) view
  expired_in (gave_up view ∷ past) = max (expired_in past) view
  expired_in (event ∷ past) = expired_in past

  -- of the proposals that are its own, or valid, the one of the highest view
  abbrev pub chosen_in : ValidatorHistory D K G C → Option (Proposal D)
  chosen_in [] = None
  chosen_in (chose p ∷ past) = later_of (chosen_in past) p
  chosen_in (event ∷ past) = chosen_in past

  -- the last view of which it gave a proposal to be made, or to be judged, or 0
  abbrev pub posed_in : ValidatorHistory D K G C → ℕ
  posed_in [] = 0
  posed_in (gave (Propose view parent) ∷ past) = view.0
  posed_in (gave (Judge p) ∷ past) = p.round.view.0
  posed_in (event ∷ past) = posed_in past

  -- who leads a view
  abbrev pub leader_in : ValidatorHistory D K G C → ℕ → Option Participant
  leader_in past view = leader_of (view_history view (calls_in past))

  -- the validator leads it
  pub record Leads (past : ValidatorHistory D K G C) (view : ℕ) : Type 0 where
    pub me : Participant
    pub votes_as : me_in past ≡ Some me
    pub leads : leader_in past view ≡ Some me

-- what the leader of a view proposes, or what was certified
abbrev pub proposal_by : {D K G C : Type 0} → NodeConfig D K G C → ValidatorHistory D K G C → ℕ
    → Option (Proposal D)
proposal_by x past view =
    selected_proposal (config_of x (calls_in past) view) (view_history view (calls_in past))
