-- What the history of a list of calls promises those who rely on it.
use Rattle.std.specs.Prelude.{◌≡◌, ◌≤◌, ⊤, ℕ, zero, suc, Bool, true, false, not, ◌&&◌, ◌||◌, ◌==◌}
use Rattle.std.specs.Prelude.{List, [], ◌∷◌, ◌++◌, Some, None, is_some, length}
use Rattle.std.specs.List.{list_any}
use Rattle.batcher_types.specs.declared.positions.Participant.{Participant}
use Rattle.batcher_types.specs.declared.messages.Vote.{Vote}
use Rattle.batcher_types.specs.declared.messages.Kind.{Kind}
use Rattle.batcher_histories.specs.declared.answers.Admission.{Admission}
use Rattle.batcher_votes.specs.declared.votes.Mode.TheVariants.{Retaining, Skipped}
use Rattle.batcher_histories.specs.declared.calls.Call.{Call}
use Rattle.batcher_histories.specs.declared.calls.Call.TheVariants.{Network as NetworkCall}
use Rattle.batcher_histories.specs.declared.calls.Call.TheVariants.{Construct as ConstructCall}
use Rattle.batcher_histories.specs.declared.answers.Answer.TheVariants.{Network as NetworkAnswer}
use Rattle.batcher_histories.specs.declared.answers.Answer.TheVariants.{Construct as ConstructAnswer}
use Rattle.batcher_histories.specs.Config.{Config, sender_in, quorum_in}
use Rattle.batcher_types.specs.Lists.{is_some_and}
use Rattle.batcher_types.specs.Votes.{signer_of}
use Rattle.batcher_histories.specs.History.{Event, History, names_sender, cast_votes, batch_given}
use Rattle.batcher_histories.specs.FirstVotes.{first_votes, is_free, contradicts}
use Rattle.batcher_histories.specs.Selection.{is_certified}
use Rattle.batcher_histories.specs.Eligible.{valid_votes}
use Rattle.batcher_histories.specs.Runs.{certifies_answer}
use Rattle.batcher_histories.specs.Work.{IsWorkBounded}

module _ {D K G C : Type 0} where
  -- what holds of each network vote, by the history before it, its sender and the admission that it
  -- was answered
  abbrev pub AtEachVote : (History D K G C → K → Vote G D → Admission G D → Type 0)
      → History D K G C → Type 0
  AtEachVote holds [] = ⊤
  AtEachVote holds ((NetworkCall sender vote, NetworkAnswer admission) ∷ past) =
      holds past sender vote admission × AtEachVote holds past
  AtEachVote holds (event ∷ past) = AtEachVote holds past

  -- what holds of each event, by the history before it
  abbrev pub AtEachEvent : (History D K G C → Event D K G C → Type 0) → History D K G C → Type 0
  AtEachEvent holds [] = ⊤
  AtEachEvent holds (event ∷ past) = holds past event × AtEachEvent holds past

  -- what holds of a history, and of each before it
  abbrev pub AtEachTime : (History D K G C → Type 0) → History D K G C → Type 0
  AtEachTime holds [] = holds []
  AtEachTime holds (event ∷ past) = holds (event ∷ past) × AtEachTime holds past

  -- whether the last so many calls are constructions
  abbrev pub ends_in_constructions : ℕ → History D K G C → Bool
  ends_in_constructions zero past = true
  ends_in_constructions (suc n) ((ConstructCall, answer) ∷ past) = ends_in_constructions n past
  ends_in_constructions (suc n) past = false

  -- A fourth construction in a row gives no batch.
  abbrev pub Rests : History D K G C → Event D K G C → Type 0
  Rests past event = ends_in_constructions 4 (event ∷ past) ≡ true → event.1 ≡ ConstructAnswer None

module _ {D K G C : Type 0} (x : Config D K G C) where
  -- Acceptance is exact: a network vote is added exactly if it names its sender and no first vote
  -- excludes it.
  abbrev pub IsAcceptedExactly : History D K G C → K → Vote G D → Admission G D → Type 0
  IsAcceptedExactly past sender vote admission =
      admission.added ≡ (names_sender x sender vote && is_free (first_votes x past) vote)

  -- whether a call is a participant's vote that names another one
  abbrev pub names_another : ℕ → Call K G C D → Bool
  names_another i (NetworkCall sender vote) =
      is_some_and (sender_in x sender) (λ p. (p.0 == i) && not (p.0 == signer_of vote))
  names_another i call = false

  -- All votes that were cast, the excluded ones too. What others send in a participant's name isn't
  -- cast.
  abbrev pub votes_cast : History D K G C → List (Vote G D)
  votes_cast [] = []
  votes_cast (event ∷ past) = cast_votes x event.0 ++ votes_cast past

  -- whether two votes of the participant contradict each other
  abbrev pub contradicts_itself : List (Vote G D) → ℕ → Bool
  contradicts_itself votes i =
      list_any (λ v. (signer_of v == i) && list_any (contradicts x v) votes) votes

  -- what a participant may be blocked for
  abbrev pub gave_cause : History D K G C → ℕ → Bool
  gave_cause past i =
      list_any (λ event. names_another i event.0) past || contradicts_itself (votes_cast past) i

  -- The honest are never blocked: a participant that is blocked has given cause, with this vote at
  -- the latest.
  abbrev pub IsBlockedForCause : History D K G C → K → Vote G D → Admission G D → Type 0
  IsBlockedForCause past sender vote admission =
      is_some admission.block ≡ true → (i : Participant) → sender_in x sender ≡ Some i
      → gave_cause ((NetworkCall sender vote, NetworkAnswer admission) ∷ past) i.0 ≡ true

  -- Contradictions are blocked in retaining rounds: whoever contradicts its own first vote is
  -- blocked.
  abbrev pub IsBlockedIfContradicting : History D K G C → K → Vote G D → Admission G D → Type 0
  IsBlockedIfContradicting past sender vote admission =
      x.mode ≡ Retaining → (names_sender x sender vote
      && list_any (λ v. contradicts x v vote) (first_votes x past)) ≡ true
      → is_some admission.block ≡ true

  -- Certificates verify: the one that a batch gives certifies what it names.
  abbrev pub GivesVerified : History D K G C → Event D K G C → Type 0
  GivesVerified past event = certifies_answer x.meaning event.1

  -- Quorums complete: after three constructions in a row each kind of which a quorum is valid is
  -- certified.
  abbrev pub CompletesQuorums : History D K G C → Event D K G C → Type 0
  CompletesQuorums past event =
      ends_in_constructions 3 (event ∷ past) ≡ true
      → (kind : Kind) → quorum_in x ≤ length (valid_votes x (event ∷ past) kind)
      → is_certified (event ∷ past) kind ≡ true

  -- A skipped round gives no batch.
  abbrev pub GivesNone : History D K G C → Event D K G C → Type 0
  GivesNone past event = x.mode ≡ Skipped → batch_given event.1 ≡ None

  -- What holds of every list of calls on a fresh round, over its history.
  pub record Promises (past : History D K G C) : Type 0 where
    pub acceptance_is_exact : AtEachVote IsAcceptedExactly past
    pub honest_are_never_blocked : AtEachVote IsBlockedForCause past
    pub contradictions_are_blocked : AtEachVote IsBlockedIfContradicting past
    pub certificates_verify : AtEachEvent GivesVerified past
    pub quorums_complete : AtEachEvent CompletesQuorums past
    pub constructions_rest : AtEachEvent Rests past
    pub no_double_work : AtEachTime (IsWorkBounded x) past
    pub no_batch_when_skipped : AtEachEvent GivesNone past
