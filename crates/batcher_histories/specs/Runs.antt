-- Whole runs of a round's calls, step by step.
use Rattle.std.specs.Prelude.{⊤, ◌≡◌, ◌||◌, true, cond, List, [], ◌∷◌, Option, Some, None, is_some}
use Rattle.std.specs.Prelude.{is_ok, Result, Ok, Err, IfSome}
use Rattle.std.specs.List.{filter_map, zip}
use Rattle.rand_core.specs.Stream.{Stream}
use Rattle.batcher_types.specs.declared.positions.Participant.{Participant}
use Rattle.batcher_types.specs.declared.positions.Round.{Round}
use Rattle.batcher_types.specs.declared.messages.Proposal.{Proposal}
use Rattle.batcher_types.specs.declared.messages.Vote.{Vote}
use Rattle.batcher_types.specs.declared.messages.Certificate.{Certificate}
use Rattle.batcher_votes.specs.declared.verifier.LeaderFault.{LeaderFault}
use Rattle.batcher_histories.specs.declared.calls.Call.{Call}
use Rattle.batcher_histories.specs.declared.calls.Call.TheVariants.{Network as NetworkCall}
use Rattle.batcher_histories.specs.declared.calls.Call.TheVariants.{Own as OwnCall}
use Rattle.batcher_histories.specs.declared.calls.Call.TheVariants.{Certificate as CertificateCall}
use Rattle.batcher_histories.specs.declared.calls.Call.TheVariants.{Leader as LeaderCall}
use Rattle.batcher_histories.specs.declared.calls.Call.TheVariants.{Construct as ConstructCall}
use Rattle.batcher_histories.specs.declared.calls.Call.TheVariants.{Forward as ForwardCall}
use Rattle.batcher_histories.specs.declared.calls.Call.TheVariants.{Missing as MissingCall}
use Rattle.batcher_histories.specs.declared.answers.Answer.{Answer}
use Rattle.batcher_histories.specs.declared.answers.Answer.TheVariants.{Network as NetworkAnswer}
use Rattle.batcher_histories.specs.declared.answers.Answer.TheVariants.{Own as OwnAnswer}
use Rattle.batcher_histories.specs.declared.answers.Answer.TheVariants.{OwnRefused}
use Rattle.batcher_histories.specs.declared.answers.Answer.TheVariants.{Certificate as CertificateAnswer}
use Rattle.batcher_histories.specs.declared.answers.Answer.TheVariants.{Leader as LeaderAnswer}
use Rattle.batcher_histories.specs.declared.answers.Answer.TheVariants.{Construct as ConstructAnswer}
use Rattle.batcher_histories.specs.declared.answers.Answer.TheVariants.{Forward as ForwardAnswer}
use Rattle.batcher_histories.specs.declared.answers.Answer.TheVariants.{Missing as MissingAnswer}
use Rattle.batcher_histories.specs.declared.answers.Answer.TheVariants.{OutOfMemory}
use Rattle.batcher_types.specs.Meaning.{Meaning}
use Rattle.batcher_histories.specs.Config.{Config, participants_in}
use Rattle.batcher_votes.specs.RoundState.{RoundState}
use Rattle.batcher_types.specs.Votes.{subject_of, attestation_of, subject_certified, round_in}
use Rattle.batcher_votes.specs.Verifiers.{certifies_itself}
use Rattle.batcher_histories.specs.Steps.{leader_set_answer, forward_answer, missing_in, own_result}
use Rattle.batcher_histories.specs.Steps.{AfterLeader, AfterNetwork, AfterOwn, AfterCertificate}
use Rattle.batcher_histories.specs.Steps.{AfterConstruct}

module _ {D K G C : Type 0} (x : Config D K G C) where
  -- nothing changed
  abbrev pub Stays : RoundState G D → Stream → RoundState G D → Stream → Type 0
  Stays old before new after = (new ≡ old) × (after ≡ before)

  abbrev pub AfterLeaderSet : RoundState G D → Participant → Result (Unit {0}) LeaderFault
      → RoundState G D
      → Type 0
  AfterLeaderSet old leader (Ok done) new = AfterLeader x old leader new
  AfterLeaderSet old leader (Err fault) new = new ≡ old

  -- What each call changes, by its answer. It never has the answer of another call, and one that is
  -- refused for memory leaves the round as it was.
  abbrev pub StepsNetwork : RoundState G D → Stream → K → Vote G D → Answer G C D → RoundState G D
      → Stream
      → Type 0
  StepsNetwork old before sender vote (NetworkAnswer answer) new after =
      AfterNetwork x old sender vote answer new × (after ≡ before)
  StepsNetwork old before sender vote OutOfMemory new after = Stays old before new after
  StepsNetwork old before sender vote answer new after = ⊥

  abbrev pub StepsOwn : RoundState G D → Stream → Vote G D → Answer G C D → RoundState G D → Stream
      → Type 0
  StepsOwn old before vote (OwnAnswer outcome report) new after =
      AfterOwn x old vote outcome report new × (after ≡ before)
  StepsOwn old before vote (OwnRefused fault) new after =
      (own_result x old vote ≡ Err fault) × Stays old before new after
  StepsOwn old before vote OutOfMemory new after =
      is_ok (own_result x old vote) ≡ true × Stays old before new after
  StepsOwn old before vote answer new after = ⊥

  abbrev pub StepsCertificate : RoundState G D → Stream → Certificate C D → Answer G C D
      → RoundState G D
      → Stream → Type 0
  StepsCertificate old before certificate (CertificateAnswer answer) new after =
      AfterCertificate x old certificate answer new × (after ≡ before)
  StepsCertificate old before certificate OutOfMemory new after = Stays old before new after
  StepsCertificate old before certificate answer new after = ⊥

  abbrev pub StepsLeader : RoundState G D → Stream → Participant → Answer G C D → RoundState G D
      → Stream
      → Type 0
  StepsLeader old before leader (LeaderAnswer answer) new after =
      (answer ≡ leader_set_answer old.buffered.leader leader)
      × (AfterLeaderSet old leader answer new × (after ≡ before))
  StepsLeader old before leader answer new after = ⊥

  -- Only here may the generator move, also where memory is refused.
  abbrev pub StepsConstruct : RoundState G D → Stream → Answer G C D → RoundState G D → Stream
      → Type 0
  StepsConstruct old before (ConstructAnswer answer) new after =
      AfterConstruct x old before answer new after
  StepsConstruct old before OutOfMemory new after = new ≡ old
  StepsConstruct old before answer new after = ⊥

  abbrev pub StepsForward : RoundState G D → Stream → Participant → Answer G C D → RoundState G D
      → Stream
      → Type 0
  StepsForward old before me (ForwardAnswer answer) new after =
      (answer ≡ forward_answer old me) ×
      ((new ≡ record old { forwarded = is_some answer || old.forwarded }) × (after ≡ before))
  StepsForward old before me answer new after = ⊥

  abbrev pub StepsMissing : RoundState G D → Stream → Proposal D → Answer G C D → RoundState G D
      → Stream
      → Type 0
  StepsMissing old before proposal (MissingAnswer answer) new after =
      (answer ≡ missing_in x.same_digest old proposal (participants_in x))
      × Stays old before new after
  StepsMissing old before proposal OutOfMemory new after = Stays old before new after
  StepsMissing old before proposal answer new after = ⊥

  -- one call, with its answer
  abbrev pub Steps : RoundState G D → Stream → Call K G C D → Answer G C D → RoundState G D → Stream
      → Type 0
  Steps old before (NetworkCall sender vote) answer new after =
      StepsNetwork old before sender vote answer new after
  Steps old before (OwnCall vote) answer new after = StepsOwn old before vote answer new after
  Steps old before (CertificateCall certificate) answer new after =
      StepsCertificate old before certificate answer new after
  Steps old before (LeaderCall leader) answer new after =
      StepsLeader old before leader answer new after
  Steps old before ConstructCall answer new after = StepsConstruct old before answer new after
  Steps old before (ForwardCall me) answer new after = StepsForward old before me answer new after
  Steps old before (MissingCall proposal) answer new after =
      StepsMissing old before proposal answer new after

  -- Each call in order has one answer, by its step from what the calls before left.
  abbrev pub Runs : RoundState G D → Stream → List (Call K G C D) → List (Answer G C D)
      → RoundState G D
      → Stream → Type 0
  Runs old before [] [] new after = Stays old before new after
  Runs old before (call ∷ calls) (answer ∷ answers) new after =
      (middle : RoundState G D) × ((stream : Stream)
      × (Steps old before call answer middle stream
      × Runs middle stream calls answers new after))
  Runs old before calls answers new after = ⊥

-- What a call asks of its caller: votes and certificates are of the round, and an own vote attests.
abbrev pub MayCall : {D K G C : Type 0} → Meaning D K G C → Round → Call K G C D → Type 0
MayCall m number (NetworkCall sender vote) = round_in (subject_of vote) ≡ number
MayCall m number (OwnCall vote) =
    (round_in (subject_of vote) ≡ number)
    × (m.attests (subject_of vote) (attestation_of vote) ≡ true)
MayCall m number (CertificateCall certificate) = round_in (subject_certified certificate) ≡ number
MayCall m number call = ⊤

-- A certificate in an answer certifies what it names.
abbrev pub certifies_answer : {D K G C : Type 0} → Meaning D K G C → Answer G C D → Type 0
certifies_answer m (ConstructAnswer given) =
    IfSome given (λ batch. IfSome batch.certificate
    (λ certificate. certifies_itself m certificate ≡ true))
certifies_answer m answer = ⊤

-- the sender that the answer blocks
abbrev pub blocked_sender : {K G C D : Type 0} → Call K G C D → Answer G C D → Option K
blocked_sender (NetworkCall sender vote) (NetworkAnswer admission) =
    cond (is_some admission.block) (Some sender) None
blocked_sender call answer = None

-- the senders that the answers block, in the order of the calls, each as often as it was blocked
abbrev pub blocked_senders : {K G C D : Type 0} → List (Call K G C D) → List (Answer G C D) → List K
blocked_senders calls answers =
    filter_map (λ asked. blocked_sender asked.0 asked.1) (zip calls answers)
