-- What may be answered to a call after a history.
use Rattle.std.specs.Prelude.{◌≡◌, ℕ, Bool, true, false, not, ◌&&◌, ◌||◌, List, [], ◌∷◌, Option}
use Rattle.std.specs.Prelude.{Some, None, is_some, is_none, Result, Ok, Err, ⊤}
use Rattle.std.specs.Result.{result_ok}
use Rattle.batcher_types.specs.declared.positions.Participant.{Participant}
use Rattle.batcher_types.specs.declared.messages.Proposal.{Proposal}
use Rattle.batcher_types.specs.declared.messages.Vote.{Vote}
use Rattle.batcher_types.specs.declared.messages.Certificate.{Certificate}
use Rattle.batcher_types.specs.declared.messages.Certificate.TheVariants.{Notarization as NotarizationCertificate}
use Rattle.batcher_types.specs.declared.messages.Certificate.TheVariants.{Nullification as NullificationCertificate}
use Rattle.batcher_types.specs.declared.messages.Certificate.TheVariants.{Finalization as FinalizationCertificate}
use Rattle.batcher_types.specs.declared.messages.Kind.{Kind}
use Rattle.batcher_types.specs.declared.messages.Kind.TheVariants.{Notarization, Nullification}
use Rattle.batcher_types.specs.declared.messages.Kind.TheVariants.{Finalization}
use Rattle.batcher_histories.specs.declared.answers.Admission.{Admission}
use Rattle.batcher_histories.specs.declared.answers.OwnFault.{OwnFault}
use Rattle.batcher_votes.specs.declared.votes.Outcome.{Outcome}
use Rattle.batcher_histories.specs.declared.calls.Call.{Call}
use Rattle.batcher_histories.specs.declared.calls.Call.TheVariants.{Network as NetworkCall}
use Rattle.batcher_histories.specs.declared.calls.Call.TheVariants.{Own as OwnCall}
use Rattle.batcher_histories.specs.declared.calls.Call.TheVariants.{Certificate as CertificateCall}
use Rattle.batcher_histories.specs.declared.calls.Call.TheVariants.{Leader as LeaderCall}
use Rattle.batcher_histories.specs.declared.calls.Call.TheVariants.{Construct as ConstructCall}
use Rattle.batcher_histories.specs.declared.calls.Call.TheVariants.{Forward as ForwardCall}
use Rattle.batcher_histories.specs.declared.calls.Call.TheVariants.{Missing as MissingCall}
use Rattle.batcher_histories.specs.declared.answers.Answer.{Answer}
use Rattle.batcher_histories.specs.declared.answers.Answer.TheVariants.{OutOfMemory}
use Rattle.batcher_histories.specs.declared.answers.Answer.TheVariants.{Network as NetworkAnswer}
use Rattle.batcher_histories.specs.declared.answers.Answer.TheVariants.{Own as OwnAnswer}
use Rattle.batcher_histories.specs.declared.answers.Answer.TheVariants.{OwnRefused}
use Rattle.batcher_histories.specs.declared.answers.Answer.TheVariants.{Certificate as CertificateAnswer}
use Rattle.batcher_histories.specs.declared.answers.Answer.TheVariants.{Leader as LeaderAnswer}
use Rattle.batcher_histories.specs.declared.answers.Answer.TheVariants.{Construct as ConstructAnswer}
use Rattle.batcher_histories.specs.declared.answers.Answer.TheVariants.{Forward as ForwardAnswer}
use Rattle.batcher_histories.specs.declared.answers.Answer.TheVariants.{Missing as MissingAnswer}
use Rattle.batcher_histories.specs.Config.{Config, participants_in}
use Rattle.batcher_types.specs.Votes.{kind_of, signer_of}
use Rattle.batcher_votes.specs.ProposalStates.{replaces}
use Rattle.batcher_histories.specs.Steps.{is_added, leader_set_answer, report_by}
use Rattle.batcher_histories.specs.Runs.{MayCall}
use Rattle.batcher_types.specs.Lists.{is_empty, is_some_and}
use Rattle.batcher_histories.specs.History.{History, is_made, history_after}
use Rattle.batcher_histories.specs.FirstVotes.{first_vote}
use Rattle.batcher_histories.specs.Selection.{leader_of, selection, selected_proposal, is_released}
use Rattle.batcher_histories.specs.Selection.{votes_restored_by}
use Rattle.batcher_histories.specs.Comparison.{known_after}
use Rattle.batcher_histories.specs.Known.{network_by, own_by, forward_by, missing_by}
use Rattle.batcher_histories.specs.Eligible.{ready_kind}
use Rattle.batcher_histories.specs.Attempts.{AttemptAfter}

module _ {D K G C : Type 0} (x : Config D K G C) where
  -- what a network vote is answered after a history: whether it is added, whether its sender is
  -- blocked, and what is reported
  abbrev pub network_answer : History D K G C → K → Vote G D → Admission G D
  network_answer past sender vote = network_by x (known_after x past) sender vote

  -- what an own vote is answered after a history: its outcome, or the fault for which it is refused
  abbrev pub own_answer : History D K G C → Vote G D → Result Outcome OwnFault
  own_answer past vote = own_by x.same_digest (known_after x past) vote

  -- A notarization changes the selected proposal where none is known, or where it replaces the
  -- leader's.
  abbrev pub certificate_answer : History D K G C → Certificate C D → Bool
  certificate_answer past (NotarizationCertificate certificate) =
      is_none (selected_proposal x past)
      || replaces x.same_digest (selection x past) certificate.proposal
  certificate_answer past (NullificationCertificate certificate) = false
  certificate_answer past (FinalizationCertificate certificate) = false

  -- the selected proposal, unless one was forwarded or the leader asks
  abbrev pub forward_after : History D K G C → Participant → Option (Proposal D)
  forward_after past me = forward_by (known_after x past) me

  -- the participants without the block, ascending
  abbrev pub missing_after : History D K G C → Proposal D → List Participant
  missing_after past p =
      missing_by x.same_digest (known_after x past).observed p (participants_in x)

  -- whether a nullify of the participant is kept in full
  abbrev pub keeps_nullify : History D K G C → ℕ → Bool
  keeps_nullify past i =
      not (is_released x past Nullification) && is_some (first_vote x past Nullification i)

  abbrev pub MayAnswer : History D K G C → Call K G C D → Answer G C D → Type 0
  MayAnswer past (NetworkCall sender vote) (NetworkAnswer answer) =
      answer ≡ network_answer past sender vote
  MayAnswer past (OwnCall vote) (OwnAnswer outcome report) =
      (own_answer past vote ≡ Ok outcome) × (report ≡ report_by outcome vote)
  MayAnswer past (OwnCall vote) (OwnRefused fault) = own_answer past vote ≡ Err fault
  MayAnswer past (CertificateCall certificate) (CertificateAnswer answer) =
      answer ≡ certificate_answer past certificate
  MayAnswer past (LeaderCall leader) (LeaderAnswer answer) =
      answer ≡ leader_set_answer (leader_of past) leader
  MayAnswer past ConstructCall (ConstructAnswer None) = ready_kind x past ≡ None
  MayAnswer past ConstructCall (ConstructAnswer (Some batch)) =
      (kind : Kind) × ((ready_kind x past ≡ Some kind) × AttemptAfter x past kind batch)
  MayAnswer past (ForwardCall me) (ForwardAnswer answer) = answer ≡ forward_after past me
  MayAnswer past (MissingCall p) (MissingAnswer answer) = answer ≡ missing_after past p
  -- no other answer is given
  MayAnswer past call answer = ⊥

  -- A history is possible where each call was allowed and made, and was answered as it may be.
  abbrev pub IsPossible : History D K G C → Type 0
  IsPossible [] = ⊤
  IsPossible (event ∷ past) =
      MayCall x.meaning x.number event.0
      × ((is_made event.1 ≡ true) × (MayAnswer past event.0 event.1 × IsPossible past))

  -- whether a first vote of the participant is there, of any kind
  abbrev pub has_voted : History D K G C → ℕ → Bool
  has_voted past i =
      is_some (first_vote x past Notarization i)
      || (is_some (first_vote x past Nullification i) || is_some (first_vote x past Finalization i))

  -- Whether a call may need memory: a network vote that is added, unless its signer has voted and
  -- its kind is released; an own vote that is added; a certificate with which votes are restored; a
  -- batch; and a list of participants.
  abbrev pub needs_memory : History D K G C → Call K G C D → Bool
  needs_memory past (NetworkCall sender vote) =
      (network_answer past sender vote).added
      && (not (has_voted past (signer_of vote)) || not (is_released x past (kind_of vote)))
  needs_memory past (OwnCall vote) = is_some_and (result_ok (own_answer past vote)) is_added
  needs_memory past (CertificateCall certificate) =
      not (is_empty (votes_restored_by x past
      (CertificateCall certificate, CertificateAnswer (certificate_answer past certificate))))
  needs_memory past (LeaderCall leader) = false
  needs_memory past ConstructCall = is_some (ready_kind x past)
  needs_memory past (ForwardCall me) = false
  needs_memory past (MissingCall p) = true

  -- A call is answered as it may be, or refused for memory where it may need some.
  abbrev pub IsAnswered : History D K G C → Call K G C D → Answer G C D → Type 0
  IsAnswered past call OutOfMemory = needs_memory past call ≡ true
  IsAnswered past call answer = MayAnswer past call answer

  -- each call, after those before it with their answers
  abbrev pub AreAnswered : History D K G C → List (Call K G C D) → List (Answer G C D) → Type 0
  AreAnswered past [] [] = ⊤
  AreAnswered past (call ∷ calls) (answer ∷ answers) =
      IsAnswered past call answer × AreAnswered (history_after past call answer) calls answers
  AreAnswered past calls answers = ⊥
