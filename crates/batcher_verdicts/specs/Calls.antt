-- What calls of a round do, and what they answer, of every history that the round represents.
use Rattle.std.specs.Prelude.{◌≡◌, ◌≢◌, ◌↔◌, ◌++◌, ⊤, Bool, true, false, List, Option, Some, None}
use Rattle.std.specs.Prelude.{Result, Ok, Err, IfOk, OnErr, is_some}
use Rattle.batcher_types.specs.declared.messages.Activity.{Activity}
use Rattle.batcher_types.specs.declared.messages.Attestation.{Attestation}
use Rattle.batcher_types.specs.declared.messages.Certificate.{Certificate}
use Rattle.batcher_types.specs.declared.messages.Proposal.{Proposal}
use Rattle.batcher_types.specs.declared.messages.Sha256Digest.{Sha256Digest}
use Rattle.batcher_types.specs.declared.messages.Subject.{Subject}
use Rattle.batcher_types.specs.declared.messages.Vote.{Vote}
use Rattle.batcher_types.specs.declared.positions.Participant.{Participant}
use Rattle.batcher_types.specs.declared.scheme.keyed.Name.{Name}
use Rattle.batcher_types.specs.Votes.{subject_of, subject_certified, round_in}
use Rattle.batcher_votes.specs.declared.verifier.Batch.{Batch}
use Rattle.batcher_votes.specs.declared.verifier.LeaderFault.{LeaderFault}
use Rattle.batcher_votes.specs.declared.votes.Outcome.{Outcome}
use Rattle.batcher_votes.specs.declared.votes.Outcome.TheVariants.{Conflicting}
use Rattle.batcher_votes.specs.VerifierSteps.{certificate_for}
use Rattle.batcher_votes.specs.Verifiers.{BatchCertifies, IfGiven}
use Rattle.batcher_histories.specs.declared.answers.Admission.{Admission}
use Rattle.batcher_histories.specs.declared.answers.OwnFault.{OwnFault}
use Rattle.batcher_histories.specs.declared.answers.OwnFault.TheVariants.{OutOfMemory}
use Rattle.batcher_histories.specs.declared.calls.Call.{Call}
use Rattle.batcher_histories.specs.declared.calls.Call.TheVariants.{Network, Own, Construct, Leader}
use Rattle.batcher_histories.specs.declared.calls.Call.TheVariants.{Forward}
use Rattle.batcher_histories.specs.declared.calls.Call.TheVariants.{Certificate as CertificateCall}
use Rattle.batcher_histories.specs.declared.answers.Answer.TheVariants.{Network as NetworkAnswer}
use Rattle.batcher_histories.specs.declared.answers.Answer.TheVariants.{Own as OwnAnswer}
use Rattle.batcher_histories.specs.declared.answers.Answer.TheVariants.{Construct as ConstructAnswer}
use Rattle.batcher_histories.specs.declared.answers.Answer.TheVariants.{Leader as LeaderAnswer}
use Rattle.batcher_histories.specs.declared.answers.Answer.TheVariants.{Forward as ForwardAnswer}
use Rattle.batcher_histories.specs.declared.answers.Answer.TheVariants.{Certificate as CertificateAnswer}
use Rattle.batcher_histories.specs.Answers.{needs_memory, own_answer}
use Rattle.batcher_histories.specs.Config.{participants_in}
use Rattle.batcher_histories.specs.History.{Event, History}
use Rattle.batcher_histories.specs.Represents.{Meets, Represents, Simulates}
use Rattle.batcher_histories.specs.Selection.{leader_of}
use Rattle.batcher_histories.specs.Steps.{fault_or_memory, leader_set_answer}
use Rattle.batcher_round.specs.Next.{subject_next}
use Rattle.batcher_round.specs.Verdicts.{BatchIsAssembled}
use Rattle.batcher_bytes.specs.Meanings.{made_of}
use Rattle.batcher_bytes.specs.declared.certificates.Content.{Content}
use Rattle.batcher_bytes.specs.declared.signature.Keys.{Keys}
use Rattle.batcher_bytes.specs.declared.signature.Signature.{Signature}
use Rattle.batcher_verdicts.specs.Rounds.{AreComplete, AsksNext, ForgetsVerdicts, RecordingNeeds}
use Rattle.batcher_verdicts.specs.Rounds.{Records as RecordsVerdicts}
use Rattle.batcher_verdicts.specs.declared.own.OwnRefusal.{OwnRefusal}
use Rattle.batcher_verdicts.specs.declared.own.OwnRefusal.TheVariants.{Elsewhere, Fault}
use Rattle.batcher_verdicts.specs.declared.own.OwnRefusal.TheVariants.{NotVerified}
use Rattle.batcher_verdicts.specs.Judging.{BytesConfig, Held}
use Rattle.batcher_verdicts.specs.Wholes.{MayBeWhole}

-- a vote, and a certificate, whose signatures are bytes
abbrev pub BytesVote : Type 0
BytesVote = Vote Signature Sha256Digest

abbrev pub BytesCertificate : Type 0 → Type 0
BytesCertificate T = Certificate (Content T) Sha256Digest

module _ {T : Type 0} (x : BytesConfig T) (old : Held) where
  -- It holds of each history that the round represents.
  abbrev pub ForEach : (History Sha256Digest Name Signature (Content T) → Type 0) → Type 0
  ForEach holds =
      (past : History Sha256Digest Name Signature (Content T)) → Represents x past old.round
      → holds past

  -- The round goes on with a call and its answer, whichever history it represents.
  abbrev pub RoundGoesOn : Event Sha256Digest Name Signature (Content T) → Held → Type 0
  RoundGoesOn event new = ForEach (λ past. Simulates x past old.round event new.round)

  -- A call is refused for memory only where the history says that it may need some.
  abbrev pub IsNeeded : {A E : Type 0} → Call Name Signature (Content T) Sha256Digest → Result A E
      → Type 0
  IsNeeded call answer = ForEach (λ past. OnErr answer (needs_memory x past call ≡ true))

  module _ {E : Type 0} where
    -- A vote of a peer: None where it is of another round.
    pub record Adds (sender : Name) (vote : BytesVote)
        (answer : Result (Option (Admission Signature Sha256Digest)) E) (new : Held)
        : Type 0 where
      pub meets : IfGiven answer (λ admission.
          RoundGoesOn (Network sender vote, NetworkAnswer admission) new)
      pub elsewhere : IfOk answer (λ given.
          (given ≡ None) ↔ (round_in (subject_of vote) ≢ x.number))
      pub needed : IsNeeded (Network sender vote) answer
      pub none : answer ≡ Ok None → new ≡ old
      pub refused : OnErr answer (new ≡ old)
      pub verdicts : new.verdicts ≡ old.verdicts

    -- A certificate that was verified: None where it is of another round.
    pub record Takes (certificate : BytesCertificate T) (answer : Result (Option Bool) E)
        (new : Held) : Type 0 where
      pub meets : IfGiven answer (λ selected_anew.
          RoundGoesOn (CertificateCall certificate, CertificateAnswer selected_anew) new)
      pub elsewhere : IfOk answer (λ given.
          (given ≡ None) ↔ (round_in (subject_certified certificate) ≢ x.number))
      pub needed : IsNeeded (CertificateCall certificate) answer
      pub none : answer ≡ Ok None → new ≡ old
      pub refused : OnErr answer (new ≡ old)
      pub verdicts : new.verdicts ≡ old.verdicts

    -- Verdicts on a list, of what is asked about first: false where it isn't that.
    pub record Hears (subject : Subject Sha256Digest) (list : List (Attestation Signature))
        (verdicts : List Bool) (answer : Result Bool E) (new : Held) : Type 0 where
      pub records : answer ≡ Ok true
          → RecordsVerdicts x old.round old.verdicts new.verdicts subject list verdicts
      pub not_stale : (rest : List (Attestation Signature))
          → AsksNext x old.round old.verdicts subject (list ++ rest)
          → IfOk answer (λ is_next. is_next ≡ true)
      pub needed : OnErr answer (RecordingNeeds x old.round old.verdicts subject list)
      pub stale : answer ≡ Ok false → new ≡ old
      pub refused : OnErr answer (new ≡ old)
      pub round : new.round ≡ old.round

    -- The next construction: None where a verdict is missing, or no kind is ready.
    pub record ConstructsNext (answer : Result (Option (Batch (BytesCertificate T))) E) (new : Held)
        : Type 0 where
      pub complete : (subject : Subject Sha256Digest)
          → AreComplete x old.round old.verdicts subject
          → IfOk answer (λ given. is_some given ≡ true)
      pub made : IfGiven answer (λ _. (subject : Subject Sha256Digest)
          × AreComplete x old.round old.verdicts subject)
      pub meets : IfGiven answer
          (λ batch. RoundGoesOn (Construct, ConstructAnswer (Some batch)) new)
      pub needed : IsNeeded Construct answer
      pub certifies : IfGiven answer (BatchCertifies x.meaning)
      pub assembled : IfGiven answer (BatchIsAssembled x.meaning)
      pub forgets : IfGiven answer (λ _. (subject : Subject Sha256Digest)
          → subject_next x old.round ≡ Some subject
          → ForgetsVerdicts old.verdicts new.verdicts subject)
      pub waits : answer ≡ Ok None → new ≡ old
      pub refused : OnErr answer (new ≡ old)

    -- The next construction, of a quorum that passes as a whole: None where the subject and the
    -- list aren't those of the next construction, or the list is no quorum.
    pub record ConcludesTogether (keys : Keys) (subject : Subject Sha256Digest)
        (list : List (Attestation Signature))
        (answer : Result (Option (Batch (BytesCertificate T))) E) (new : Held) : Type 0 where
      pub not_stale : MayBeWhole x old.round subject list
          → IfOk answer (λ given. is_some given ≡ true)
      pub made : IfGiven answer (λ _. MayBeWhole x old.round subject list)
      pub certified : IfGiven answer (λ batch. batch.certificate
          ≡ Some (certificate_for subject (made_of keys (participants_in x) subject list)))
      pub meets : IfGiven answer
          (λ batch. RoundGoesOn (Construct, ConstructAnswer (Some batch)) new)
      pub certifies : IfGiven answer (BatchCertifies x.meaning)
      pub needed : OnErr answer (MayBeWhole x old.round subject list)
      pub waits : answer ≡ Ok None → new ≡ old
      pub refused : OnErr answer (new ≡ old)
      pub verdicts : new.verdicts ≡ old.verdicts

  -- An own vote, by a verdict on it.
  pub record Accepts (vote : BytesVote) (attests : Bool)
      (answer : Result (Outcome × Option (Activity Signature Sha256Digest)) OwnRefusal)
      (new : Held) : Type 0 where
    pub meets : IfOk answer (λ given. RoundGoesOn (Own vote, OwnAnswer given.0 given.1) new)
    pub elsewhere : (answer ≡ Err Elsewhere) ↔ (round_in (subject_of vote) ≢ x.number)
    pub verified : IfOk answer (λ _. attests ≡ true)
    pub not_verified : answer ≡ Err NotVerified → attests ≡ false
    pub named : (fault : OwnFault) → answer ≡ Err (Fault fault)
        → ForEach (λ past. fault ≡ fault_or_memory (own_answer x past vote))
    pub needed : answer ≡ Err (Fault OutOfMemory)
        → ForEach (λ past. needs_memory x past (Own vote) ≡ true)
    pub outcome : IfOk answer (λ given. given.0 ≢ Conflicting)
    pub refused : OnErr answer (new ≡ old)
    pub verdicts : new.verdicts ≡ old.verdicts

  pub record NamesLeader (leader : Participant) (answer : Result ⊤ LeaderFault)
      (new : Held) : Type 0
    where
      pub named : ForEach (λ past. answer ≡ leader_set_answer (leader_of past) leader)
      pub meets : ForEach (λ past.
          Meets x past old.round (Leader leader, LeaderAnswer answer) new.round)
      pub refused : OnErr answer (new ≡ old)
      pub verdicts : new.verdicts ≡ old.verdicts

  -- The selected proposal is handed on.
  pub record HandsOn (me : Participant) (answer : Option (Proposal Sha256Digest)) (new : Held)
      : Type 0 where
    pub meets : RoundGoesOn (Forward me, ForwardAnswer answer) new
    pub verdicts : new.verdicts ≡ old.verdicts
