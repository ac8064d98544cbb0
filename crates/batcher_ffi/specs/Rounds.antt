-- What the calls of a round do and answer, by codes and flat values.
use Rattle.std.specs.Prelude.{◌≡◌, ◌≢◌, ◌↔◌, ◌≤◌, ◌==◌, ◌++◌, ◌⊎◌, ◌||◌, not, ℕ, Bool, true, false}
use Rattle.std.specs.Prelude.{List, [], ◌∷◌, length, map, Option, Some, None, Ok, IfSome, IsSomeAnd}
use Rattle.std.specs.Prelude.{is_some, nat_lt}
use Rattle.std.specs.List.{list_all, list_any}
use Rattle.batcher_types.specs.declared.messages.Sha256Digest.{Sha256Digest}
use Rattle.batcher_types.specs.declared.positions.Participant.{Participant}
use Rattle.batcher_types.specs.declared.scheme.keyed.Name.{Name}
use Rattle.batcher_types.specs.Keys.{participant}
use Rattle.batcher_types.specs.Votes.{attestation_of, subject_of, subject_certified, content_of}
use Rattle.batcher_types.specs.Votes.{round_in}
use Rattle.batcher_votes.specs.declared.verifier.Batch.{Batch}
use Rattle.batcher_histories.specs.declared.calls.Call.TheVariants.{Network as NetworkCall}
use Rattle.batcher_histories.specs.declared.calls.Call.TheVariants.{Own as OwnCall}
use Rattle.batcher_histories.specs.declared.calls.Call.TheVariants.{Construct as ConstructCall}
use Rattle.batcher_histories.specs.declared.calls.Call.TheVariants.{Leader as LeaderCall}
use Rattle.batcher_histories.specs.declared.calls.Call.TheVariants.{Forward as ForwardCall}
use Rattle.batcher_histories.specs.declared.calls.Call.TheVariants.{Certificate as CertificateCall}
use Rattle.batcher_histories.specs.declared.answers.Answer.TheVariants.{Network as NetworkAnswer}
use Rattle.batcher_histories.specs.declared.answers.Answer.TheVariants.{Own as OwnAnswer}
use Rattle.batcher_histories.specs.declared.answers.Answer.TheVariants.{Construct as ConstructAnswer}
use Rattle.batcher_histories.specs.declared.answers.Answer.TheVariants.{Leader as LeaderAnswer}
use Rattle.batcher_histories.specs.declared.answers.Answer.TheVariants.{Forward as ForwardAnswer}
use Rattle.batcher_histories.specs.declared.answers.Answer.TheVariants.{Certificate as CertificateAnswer}
use Rattle.batcher_histories.specs.History.{History, Event}
use Rattle.batcher_histories.specs.Represents.{Represents}
use Rattle.batcher_histories.specs.Selection.{leader_of, selected_proposal}
use Rattle.batcher_histories.specs.Selection.{is_certified as is_kind_certified}
use Rattle.batcher_histories.specs.Comparison.{has_block}
use Rattle.batcher_histories.specs.declared.answers.OwnFault.{OwnFault}
use Rattle.batcher_histories.specs.Steps.{fault_or_memory, leader_set_answer}
use Rattle.batcher_histories.specs.Answers.{keeps_nullify, missing_after, needs_memory, own_answer}
use Rattle.batcher.specs.RunContract.{IsPromised}
use Rattle.batcher_round.specs.Next.{subject_next, verified_next}
use Rattle.batcher_types.specs.declared.messages.Attestation.{Attestation}
use Rattle.batcher_types.specs.declared.messages.Kind.{Kind}
use Rattle.batcher_types.specs.declared.messages.Subject.{Subject}
use Rattle.batcher_votes.specs.RoundState.{of_kind}
use Rattle.batcher_histories.specs.declared.calls.Call.{Call}
use Rattle.batcher_bytes.specs.Listings.{Passed, listing_of}
use Rattle.batcher_bytes.specs.declared.certificates.Content.{Content}
use Rattle.batcher_bytes.specs.declared.certificates.Content.TheVariants.{Made as MadeHere}
use Rattle.batcher_bytes.specs.declared.certificates.Content.TheVariants.{Received}
use Rattle.batcher_bytes.specs.declared.signature.Keys.{Keys}
use Rattle.batcher_bytes.specs.declared.signature.Signature.{Signature}
use Rattle.batcher_verdicts.specs.Rounds.{AreComplete, AsksNext, ForgetsVerdicts}
use Rattle.batcher_verdicts.specs.Rounds.{Records as RecordsAsked}
use Rattle.batcher_verdicts.specs.Calls.{ForEach, RoundGoesOn}
use Rattle.batcher_verdicts.specs.Judging.{AnyView, BytesConfig, SameAny, config_in, held_in}
use Rattle.batcher_verdicts.specs.Judging.{keys_in}
use Rattle.batcher_ffi.specs.Truths.{is_attested, is_passed, is_certified}
use Rattle.batcher_verdicts.specs.Wholes.{MayBeWhole}
use Rattle.batcher_ffi.specs.contracts.caller.CallerTruth.TheImpl.{ghosts}
use Rattle.batcher_ffi.specs.declared.caller.Caller.{Caller}
use Rattle.batcher_ffi.specs.declared.codes.TheConstants.{DONE, MALFORMED, ELSEWHERE, OUT_OF_MEMORY}
use Rattle.batcher_ffi.specs.declared.codes.TheConstants.{LEADER_CHANGED, NOT_VERIFIED}
use Rattle.batcher_ffi.specs.declared.codes.TheConstants.{DUPLICATE_NOTARIZE, DUPLICATE_FINALIZE}
use Rattle.batcher_ffi.specs.declared.codes.TheConstants.{CONFLICTING, NULLIFY_AFTER_FINALIZE}
use Rattle.batcher_ffi.specs.declared.codes.TheConstants.{FINALIZE_AFTER_NULLIFY, IDLE, VERIFY}
use Rattle.batcher_ffi.specs.declared.codes.TheConstants.{STALE, SHORT}
use Rattle.batcher_ffi.specs.declared.flat.FlatProposal.{FlatProposal}
use Rattle.batcher_ffi.specs.declared.flat.FlatAttestation.{FlatAttestation}
use Rattle.batcher_ffi.specs.declared.flat.FlatVote.{FlatVote}
use Rattle.batcher_ffi.specs.declared.flat.FlatAdmission.{FlatAdmission}
use Rattle.batcher_ffi.specs.declared.flat.FlatStep.{FlatStep}
use Rattle.batcher_ffi.specs.Flat.{AreIn, kind_in, fault_in, mode_in, vote_of_flat, subject_in}
use Rattle.batcher_ffi.specs.Flat.{raw_in, admission_in, outcome_in, report_in, proposal_of_flat}
use Rattle.batcher_ffi.specs.Output.{Made, FillsRoom, WritesBatch}

abbrev pub is_one_of : List ℕ → ℕ → Bool
is_one_of codes code = list_any (λ c. c == code) codes

-- why an own vote isn't taken in
abbrev pub refusals : List ℕ
refusals =
    ELSEWHERE ∷ OUT_OF_MEMORY ∷ NOT_VERIFIED ∷ DUPLICATE_NOTARIZE ∷ DUPLICATE_FINALIZE
    ∷ CONFLICTING ∷ NULLIFY_AFTER_FINALIZE ∷ FINALIZE_AFTER_NULLIFY ∷ []

-- a round as C has it
abbrev pub CRound : Type 0
CRound = AnyView Caller

-- its configuration
abbrev pub config_of_handle : CRound → BytesConfig Caller
config_of_handle r = config_in ghosts r

-- It holds of every history that the round represents.
abbrev pub AfterAny : CRound → (History Sha256Digest Name Signature (Content Caller) → Type 0)
    → Type 0
AfterAny r holds = ForEach (config_of_handle r) (held_in r) holds

-- A call may need memory, by every history that the round represents.
abbrev pub MayNeed : CRound → Call Name Signature (Content Caller) Sha256Digest → Type 0
MayNeed r call = AfterAny r (λ past. needs_memory (config_of_handle r) past call ≡ true)

-- What a caller has verified, by some keys: a vote, and a list one by one.
abbrev pub IsVerifiedBy : Keys → FlatVote → Bool → Type 0
IsVerifiedBy keys vote attests = IfSome (vote_of_flat vote) (λ typed.
    is_attested keys (subject_of typed) (attestation_of typed) ≡ attests)

abbrev pub AreVerifiedBy : Keys → ℕ → FlatProposal → List FlatAttestation → List Bool → Type 0
AreVerifiedBy keys kind proposal list verdicts =
    IfSome (subject_in kind proposal) (λ subject. (all : List (Attestation Signature))
    → AreIn list all → length verdicts ≡ length all
    → verdicts ≡ map (is_attested keys subject) all)

-- What a caller has verified, by the keys of the round: a vote, a list one by one or as a whole,
-- and a certificate.
module _ (handle : Option CRound) where
  abbrev pub IsVerified : FlatVote → Bool → Type 0
  IsVerified vote attests = IfSome handle (λ r. IsVerifiedBy (keys_in r) vote attests)

  abbrev pub AreVerifiedHere : ℕ → FlatProposal → List FlatAttestation → List Bool → Type 0
  AreVerifiedHere kind proposal list verdicts =
      IfSome handle (λ r. AreVerifiedBy (keys_in r) kind proposal list verdicts)

  abbrev pub PassTogether : ℕ → FlatProposal → List FlatAttestation → Type 0
  PassTogether kind proposal list = IfSome handle (λ r.
      IfSome (subject_in kind proposal) (λ subject. (all : List (Attestation Signature))
      → AreIn list all → is_passed (keys_in r) subject all ≡ true))

  abbrev pub Certifies : ℕ → FlatProposal → List ℕ → Type 0
  Certifies kind proposal bytes = IfSome handle (λ r. IfSome (subject_in kind proposal) (λ subject.
      is_certified (keys_in r) subject bytes ≡ true))

-- Each of the list is an attestation, of one of so many participants.
abbrev pub AreOfParticipants : ℕ → List FlatAttestation → Type 0
AreOfParticipants participants list =
    (all : List (Attestation Signature)) × (AreIn list all
    × (list_all (λ a. nat_lt a.signer.0 participants) all ≡ true))

-- Whether a construction among so many participants might not fit into the lists.
abbrev pub is_short : ℕ → List FlatAttestation → List ℕ → Bool
is_short participants room signers_room =
    nat_lt (length room) participants || nat_lt (length signers_room) participants

-- A certificate came from elsewhere, as these bytes.
abbrev pub IsReceived : List ℕ → Content Caller → Type 0
IsReceived bytes (MadeHere listing) = ⊥
IsReceived bytes (Received certificate) = certificate.bytes ≡ bytes

-- A certificate is made of attestations, of a quorum of different participants. By their keys they
-- attest each what it is of, or pass as a whole.
abbrev pub IsOfQuorum : Keys → ℕ → Subject Sha256Digest → Content Caller → Type 0
IsOfQuorum keys participants subject (MadeHere listing) =
    Passed ghosts (listing_of keys participants subject listing.attestations)
IsOfQuorum keys participants subject (Received certificate) = ⊥

abbrev pub MakesQuorum : Keys → ℕ → Batch Made → Type 0
MakesQuorum keys participants batch = IfSome batch.certificate (λ certificate.
    IsOfQuorum keys participants (subject_certified certificate) (content_of certificate))

-- a round of these participants and this sort of scheme in which nothing has happened
pub record IsNew (epoch view participants mode : ℕ) (keys : List ℕ) (batchable : Bool)
    (made : CRound) : Type 0 where
  pub epoch_is : (config_of_handle made).number.epoch.0 ≡ epoch
  pub view_is : (config_of_handle made).number.view.0 ≡ view
  pub mode_is : mode_in mode ≡ Some (config_of_handle made).mode
  pub participants_are : length (config_of_handle made).meaning.participants ≡ participants
  pub keys_are : keys_in made ≡ record { 0 = keys }
  pub batchable_is : (config_of_handle made).meaning.batchable ≡ batchable
  pub unknown : (kind : Kind) → (of_kind (held_in made).verdicts kind).list ≡ []
  pub represents : Represents (config_of_handle made) [] (held_in made).round

-- What a call that makes a round does to a handle: where it fails, the handle stays as it was.
pub record MakesRound (old new : Option CRound) (code : ℕ) (epoch view participants mode : ℕ)
    (keys : List ℕ) (batchable : Bool) : Type 0 where
  pub codes : is_one_of (DONE ∷ MALFORMED ∷ OUT_OF_MEMORY ∷ []) code ≡ true
  pub malformed : mode_in mode ≡ None → code ≡ MALFORMED
  pub refused : code ≡ MALFORMED → is_some (mode_in mode) ≡ true → participants ≡ 0
  pub some : code ≡ DONE → 1 ≤ participants
  pub needed : code ≡ OUT_OF_MEMORY → 1 ≤ participants
  pub done : code ≡ DONE
      → IsSomeAnd new (IsNew epoch view participants mode keys batchable)
  pub stays : code ≢ DONE → new ≡ old

-- Questions to a round, and what is answered to them. The round stays as it was.
module _ (r : CRound) (code : ℕ) where
  pub record AsksLeader (old out : ℕ) : Type 0 where
    pub codes : is_one_of (DONE ∷ IDLE ∷ []) code ≡ true
    pub done : code ≡ DONE → AfterAny r (λ past. leader_of past ≡ Some (participant out))
    pub none : code ≡ IDLE → AfterAny r (λ past. leader_of past ≡ None)
    pub stays : code ≡ IDLE → out ≡ old

  pub record AsksProposal (old out : FlatProposal) : Type 0 where
    pub codes : is_one_of (DONE ∷ IDLE ∷ []) code ≡ true
    pub done : code ≡ DONE
        → AfterAny r (λ past. selected_proposal (config_of_handle r) past
        ≡ Some (proposal_of_flat out))
    pub none : code ≡ IDLE → AfterAny r (λ past. selected_proposal (config_of_handle r) past ≡ None)
    pub stays : code ≡ IDLE → out ≡ old

  pub record AsksCertificate (kind : ℕ) (old out : Bool) : Type 0 where
    pub codes : is_one_of (DONE ∷ MALFORMED ∷ []) code ≡ true
    pub malformed : (code ≡ MALFORMED) ↔ (kind_in kind ≡ None)
    pub done : code ≡ DONE
        → IfSome (kind_in kind) (λ typed. AfterAny r (λ past. out ≡ is_kind_certified past typed))
    pub stays : code ≡ MALFORMED → out ≡ old

  pub record AsksNullify (signer : ℕ) (out : Bool) : Type 0 where
    pub codes : code ≡ DONE
    pub done : AfterAny r (λ past. out ≡ keeps_nullify (config_of_handle r) past signer)

  pub record AsksMissing (proposal : FlatProposal) (asked : ℕ) (out : Bool) : Type 0 where
    pub codes : code ≡ DONE
    pub done : AfterAny r
        (λ past. out ≡ not (has_block (config_of_handle r) past asked (proposal_of_flat proposal)))

  pub record ListsMissing (proposal : FlatProposal) (room list : List ℕ) (old count : ℕ)
      : Type 0 where
    pub codes : is_one_of (DONE ∷ OUT_OF_MEMORY ∷ []) code ≡ true
    pub done : code ≡ DONE → (missing : List Participant)
        × (AfterAny r (λ past. missing ≡ missing_after (config_of_handle r) past
        (proposal_of_flat proposal))
        × ((count ≡ length missing) × FillsRoom participant missing room list))
    pub stays : code ≡ OUT_OF_MEMORY → (list ≡ room) × (count ≡ old)

-- Calls of a round, and what is answered to them. One that isn't done leaves all as it was.
module _ (before : CRound) (code : ℕ) (after : CRound) where
  -- the round goes on with a call and its answer, whichever history it represents
  abbrev pub Goes : Event Sha256Digest Name Signature (Content Caller) → Type 0
  Goes event = RoundGoesOn (config_of_handle before) (held_in before) event (held_in after)

  -- a vote of a peer, whose key is the number
  pub record AddsNetwork (sender : ℕ) (vote : FlatVote) (old out : FlatAdmission) : Type 0 where
    pub codes : is_one_of (DONE ∷ MALFORMED ∷ ELSEWHERE ∷ OUT_OF_MEMORY ∷ []) code ≡ true
    pub malformed : (code ≡ MALFORMED) ↔ (vote_of_flat vote ≡ None)
    pub elsewhere : code ≢ OUT_OF_MEMORY → IfSome (vote_of_flat vote) (λ typed.
        (code ≡ ELSEWHERE) ↔ (round_in (subject_of typed) ≢ (config_of_handle before).number))
    pub done : code ≡ DONE → IfSome (vote_of_flat vote) (λ typed.
        Goes (NetworkCall (record { 0 = sender }) typed, NetworkAnswer (admission_in out)))
    pub retained : code ≡ DONE → out.retained ≡ false
    pub needed : code ≡ OUT_OF_MEMORY → IfSome (vote_of_flat vote) (λ typed.
        MayNeed before (NetworkCall (record { 0 = sender }) typed))
    pub stays : code ≢ DONE → (after ≡ before) × (out ≡ old)
    pub verdicts : (held_in after).verdicts ≡ (held_in before).verdicts
    pub same : SameAny before after

  -- a vote of the node's own, by a verdict on it
  pub record AcceptsVote (vote : FlatVote) (attests : Bool) (old out : FlatAdmission) : Type 0
    where
      pub codes : is_one_of (DONE ∷ MALFORMED ∷ refusals) code ≡ true
      pub malformed : (code ≡ MALFORMED) ↔ (vote_of_flat vote ≡ None)
      pub elsewhere : IfSome (vote_of_flat vote) (λ typed.
          (code ≡ ELSEWHERE) ↔ (round_in (subject_of typed) ≢ (config_of_handle before).number))
      pub done : code ≡ DONE → IfSome (vote_of_flat vote) (λ typed.
          Goes (OwnCall typed, OwnAnswer (outcome_in out) (report_in out)))
      pub verified : code ≡ DONE → IfSome (vote_of_flat vote) (λ typed.
          (config_of_handle before).meaning.attests (subject_of typed) (attestation_of typed)
          ≡ true)
      pub not_verified : code ≡ NOT_VERIFIED → IfSome (vote_of_flat vote) (λ typed.
          (config_of_handle before).meaning.attests (subject_of typed) (attestation_of typed)
          ≡ false)
      pub named : (fault : OwnFault) → fault_in code ≡ Some fault
          → IfSome (vote_of_flat vote) (λ typed. AfterAny before (λ past.
          fault ≡ fault_or_memory (own_answer (config_of_handle before) past typed)))
      pub needed : code ≡ OUT_OF_MEMORY → IfSome (vote_of_flat vote) (λ typed.
          MayNeed before (OwnCall typed))
      pub stays : code ≢ DONE → after ≡ before
      pub out_stays : code ≢ DONE → out ≡ old
      pub verdicts : (held_in after).verdicts ≡ (held_in before).verdicts
      pub same : SameAny before after

  -- a certificate that the caller has verified, as bytes
  pub record RecordsCertificate (kind : ℕ) (proposal : FlatProposal) (bytes : List ℕ)
      (old out : Bool) : Type 0 where
    pub codes : is_one_of (DONE ∷ MALFORMED ∷ ELSEWHERE ∷ OUT_OF_MEMORY ∷ []) code ≡ true
    pub malformed : (code ≡ MALFORMED) ↔ (subject_in kind proposal ≡ None)
    pub elsewhere : code ≢ OUT_OF_MEMORY → IfSome (subject_in kind proposal) (λ subject.
        (code ≡ ELSEWHERE) ↔ (round_in subject ≢ (config_of_handle before).number))
    pub done : code ≡ DONE → (certificate : Made)
        × ((subject_in kind proposal ≡ Some (subject_certified certificate))
        × (IsReceived bytes (content_of certificate)
        × Goes (CertificateCall certificate, CertificateAnswer out)))
    -- for the copy of the bytes, or as the history says
    pub needed : code ≡ OUT_OF_MEMORY → 1 ≤ length bytes
        ⊎ IfSome (subject_in kind proposal) (λ subject. (certificate : Made)
        × ((subject_certified certificate ≡ subject)
        × (IsReceived bytes (content_of certificate)
        × MayNeed before (CertificateCall certificate))))
    pub stays : code ≢ DONE → (after ≡ before) × (out ≡ old)
    pub verdicts : (held_in after).verdicts ≡ (held_in before).verdicts
    pub same : SameAny before after

  -- the leader: refused where another one was named, and only then
  pub record NamesFirstLeader (leader : ℕ) : Type 0 where
    pub codes : is_one_of (DONE ∷ LEADER_CHANGED ∷ []) code ≡ true
    pub done : code ≡ DONE → Goes (LeaderCall (participant leader), LeaderAnswer (Ok tt))
    pub named : code ≡ LEADER_CHANGED → AfterAny before (λ past.
        leader_set_answer (leader_of past) (participant leader) ≢ Ok tt)
    pub stays : code ≡ LEADER_CHANGED → after ≡ before
    pub verdicts : (held_in after).verdicts ≡ (held_in before).verdicts
    pub same : SameAny before after

  -- the selected proposal, to hand on
  pub record Forwards (me : ℕ) (old out : FlatProposal) : Type 0 where
    pub codes : is_one_of (DONE ∷ IDLE ∷ []) code ≡ true
    pub done : code ≡ DONE
        → Goes (ForwardCall (participant me), ForwardAnswer (Some (proposal_of_flat out)))
    pub none : code ≡ IDLE → Goes (ForwardCall (participant me), ForwardAnswer None)
    pub out_stays : code ≡ IDLE → out ≡ old
    pub verdicts : (held_in after).verdicts ≡ (held_in before).verdicts
    pub same : SameAny before after

  -- verdicts on a list, of what the next construction wants verdicts on
  pub record RecordsVerdicts (kind : ℕ) (proposal : FlatProposal) (list : List FlatAttestation)
      (verdicts : List Bool) : Type 0 where
    pub codes : is_one_of (DONE ∷ MALFORMED ∷ STALE ∷ OUT_OF_MEMORY ∷ []) code ≡ true
    pub meaningless : subject_in kind proposal ≡ None → code ≡ MALFORMED
    pub unlike : length verdicts ≢ length list → code ≡ MALFORMED
    pub malformed : code ≡ MALFORMED → is_some (subject_in kind proposal) ≡ true
        → AreOfParticipants (length (config_of_handle before).meaning.participants) list
        → length verdicts ≢ length list
    pub records : code ≡ DONE → IfSome (subject_in kind proposal) (λ subject.
        (all : List (Attestation Signature)) × (AreIn list all
        × RecordsAsked (config_of_handle before) (held_in before).round (held_in before).verdicts
        (held_in after).verdicts subject all verdicts))
    pub stale : code ≡ STALE → IfSome (subject_in kind proposal) (λ subject.
        (all rest : List (Attestation Signature)) → AreIn list all
        → AsksNext (config_of_handle before) (held_in before).round
        (held_in before).verdicts subject
        (all ++ rest) → ⊥)
    -- for the copy of the list, or for the verdicts on it
    pub needed : code ≡ OUT_OF_MEMORY → 1 ≤ length list
    pub stays : code ≢ DONE → after ≡ before
    pub round : (held_in after).round ≡ (held_in before).round
    pub same : SameAny before after

  -- What is wanted is written: those on which verdicts are wanted, and beside them those that are
  -- known to attest.
  pub record WritesWanted (step : FlatStep) (known_room known room list : List FlatAttestation)
      : Type 0 where
    pub subject : Subject Sha256Digest
    pub asked : List (Attestation Signature)
    pub asks : AsksNext (config_of_handle before) (held_in before).round (held_in before).verdicts
        subject asked
    pub some : asked ≢ []
    pub about : subject_in step.kind step.proposal ≡ Some subject
    pub verified : step.verified
        ≡ length (verified_next (config_of_handle before) (held_in before).round)
    pub listed : step.listed ≡ length asked
    pub known_list : FillsRoom raw_in
        (verified_next (config_of_handle before) (held_in before).round)
        known_room known
    pub written : FillsRoom raw_in asked room list

  -- a construction, or the verdicts that it wants first
  pub record Constructs (old step : FlatStep) (known_room known room list : List FlatAttestation)
      (signers_room signers : List ℕ) : Type 0 where
    pub codes : is_one_of (DONE ∷ IDLE ∷ VERIFY ∷ OUT_OF_MEMORY ∷ SHORT ∷ []) code ≡ true
    pub short : (code ≡ SHORT)
        ↔ (is_short (length (config_of_handle before).meaning.participants) room signers_room
        ≡ true)
    pub wants : code ≡ VERIFY → WritesWanted step known_room known room list
    pub complete : (code ≡ DONE) ⊎ (code ≡ OUT_OF_MEMORY) → (subject : Subject Sha256Digest)
        × AreComplete (config_of_handle before) (held_in before).round
        (held_in before).verdicts subject
    pub done : code ≡ DONE → (batch : Batch Made)
        × (WritesBatch step room list signers_room signers batch
        × (MakesQuorum (keys_in before)
        (length (config_of_handle before).meaning.participants) batch
        × Goes (ConstructCall, ConstructAnswer (Some batch))))
    pub idle : code ≡ IDLE
        → subject_next (config_of_handle before) (held_in before).round ≡ None
    pub needed : code ≡ OUT_OF_MEMORY → MayNeed before ConstructCall
    pub forgets : code ≡ DONE → (subject : Subject Sha256Digest)
        → subject_next (config_of_handle before) (held_in before).round ≡ Some subject
        → ForgetsVerdicts (held_in before).verdicts (held_in after).verdicts subject
    pub stays : code ≢ DONE → after ≡ before
    pub untouched : is_one_of (IDLE ∷ OUT_OF_MEMORY ∷ SHORT ∷ []) code ≡ true
        → (step ≡ old) × ((list ≡ room) × (signers ≡ signers_room))
    pub known_stays : code ≢ VERIFY → known ≡ known_room
    pub signers_stay : code ≡ VERIFY → signers ≡ signers_room
    -- All that is promised of a round holds of each history that this one represents.
    pub promised : AfterAny before (λ past. IsPromised (config_of_handle before) past)
    pub same : SameAny before after

  -- A construction of a quorum that passes as a whole.
  pub record ConstructsTogether (kind : ℕ) (proposal : FlatProposal) (list : List FlatAttestation)
      (old step : FlatStep) : Type 0 where
    pub codes : is_one_of (DONE ∷ STALE ∷ MALFORMED ∷ OUT_OF_MEMORY ∷ []) code ≡ true
    pub meaningless : subject_in kind proposal ≡ None → code ≡ MALFORMED
    pub stale : code ≡ STALE → IfSome (subject_in kind proposal) (λ subject.
        (all : List (Attestation Signature)) → AreIn list all
        → MayBeWhole (config_of_handle before) (held_in before).round subject all → ⊥)
    pub malformed : code ≡ MALFORMED → is_some (subject_in kind proposal) ≡ true
        → (all : List (Attestation Signature)) → AreIn list all → ⊥
    pub done : code ≡ DONE → (batch : Batch Made)
        × (WritesBatch step [] [] [] [] batch
        × (MakesQuorum (keys_in before)
        (length (config_of_handle before).meaning.participants) batch
        × Goes (ConstructCall, ConstructAnswer (Some batch))))
    -- for the copy of the list, or for a certificate of it
    pub needed : code ≡ OUT_OF_MEMORY → (1 ≤ length list)
        ⊎ IfSome (subject_in kind proposal) (λ subject. (all : List (Attestation Signature))
        × (AreIn list all
        × MayBeWhole (config_of_handle before) (held_in before).round subject all))
    pub stays : code ≢ DONE → (after ≡ before) × (step ≡ old)
    pub verdicts : (held_in after).verdicts ≡ (held_in before).verdicts
    pub same : SameAny before after
