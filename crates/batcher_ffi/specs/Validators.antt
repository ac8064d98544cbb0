-- What the calls of a validator do whose caller verifies signatures and writes to the disk, and how
-- its answers are written. What is said of it are the words of `batcher_validator`.
use Rattle.std.specs.Prelude.{◌≡◌, ◌≢◌, ◌<◌, ◌≤◌, ◌++◌, ◌⊎◌, ◌&&◌, ◌||◌, ◌==◌, ⊤, ℕ, Bool, true}
use Rattle.std.specs.Prelude.{List, [], ◌∷◌, cond, length, nat_lt, Contains, MatchBool}
use Rattle.std.specs.Prelude.{MatchOption, Option, Some, None, Result, Ok, Err, IfErr, IfOk, IfSome}
use Rattle.std.specs.Prelude.{IsSomeAnd, OnErr, OnOk, false, not, take}
use Rattle.std.specs.Option.{option_map}
use Rattle.std.specs.Ordering.{nat_cmp}
use Rattle.std.specs.declared.alloc.AllocError.{AllocError}
use Rattle.batcher.specs.Meaning.{Meaning}
use Rattle.batcher.specs.RoundContracts.{round_config}
use Rattle.batcher.specs.RoundState.{RoundView}
use Rattle.batcher.specs.Config.{Config}
use Rattle.batcher.specs.answers.Admission.{Admission}
use Rattle.batcher_types.specs.Votes.{attestation_of, round_in}
use Rattle.batcher_types.specs.Votes.{subject_certified, content_of, subject_of}
use Rattle.batcher_types.specs.declared.messages.Attestation.{Attestation}
use Rattle.batcher_types.specs.declared.messages.Certificate.{Certificate}
use Rattle.batcher_types.specs.declared.messages.Kind.{Kind}
use Rattle.batcher_types.specs.declared.messages.Sha256Digest.{Sha256Digest}
use Rattle.batcher_types.specs.declared.messages.Subject.{Subject}
use Rattle.batcher_types.specs.declared.messages.Vote.{Vote}
use Rattle.batcher_types.specs.declared.positions.Round.{Round}
use Rattle.batcher_types.specs.declared.scheme.keyed.Name.{Name}
use Rattle.batcher_types.specs.Keys.{participant}
use Rattle.batcher_agreement.specs.Lives.{called}
use Rattle.batcher_agreement.specs.Policy.{Conduct}
use Rattle.batcher_bytes.specs.Copies.{CopiedView, CopyView}
use Rattle.batcher_bytes.specs.Encodings.{ProofView, proof_format, signature_format}
use Rattle.batcher_bytes.specs.Keys.{same_digest}
use Rattle.batcher_bytes.specs.Kept.{proof_of, proved_at_once, vouches}
use Rattle.batcher_bytes.specs.Listings.{attests}
use Rattle.batcher_bytes.specs.declared.fault.DecodeFault.TheVariants.{Version}
use Rattle.batcher_bytes.specs.declared.signature.Keys.{Keys}
use Rattle.batcher_bytes.specs.declared.signature.Signature.{Signature}
use Rattle.batcher_bytes.specs.declared.signature.TheConstants.{WIDTH}
use Rattle.batcher_bytes.specs.declared.signed.Signed.{Signed}
use Rattle.batcher_bytes.specs.Messages.{certificate_format, sha256_format, signing_format}
use Rattle.batcher_bytes.specs.Messages.{vote_format}
use Rattle.batcher_bytes.specs.declared.fault.DecodeFault.TheVariants.{Version}
use Rattle.batcher_journal.specs.Causes.{AreNoText, Contradicts, IsAnothers}
use Rattle.batcher_journal.specs.Text.{Contents, IsText, OwnerFields, owner_format}
use Rattle.batcher_journal.specs.declared.journal.OpenFault.{OpenFault}
use Rattle.batcher_journal.specs.declared.journal.OpenFault.TheVariants.{NotBegun, OtherVersion}
use Rattle.batcher_journal.specs.declared.journal.OpenFault.TheVariants.{OtherLengths}
use Rattle.batcher_journal.specs.declared.journal.OpenFault.TheVariants.{OtherParticipant}
use Rattle.batcher_journal.specs.declared.journal.OpenFault.TheVariants.{OtherKeys, OtherNamespace}
use Rattle.batcher_journal.specs.declared.journal.OpenFault.TheVariants.{OutOfMemory as NoMemoryToOpen}
use Rattle.batcher_journal.specs.declared.journal.OpenFault.TheVariants.{Malformed as NoJournal}
use Rattle.batcher_journal.specs.declared.journal.OpenFault.TheVariants.{Contradiction}
use Rattle.batcher_validator.specs.Disks.{GivesNext, IsAllWritten, disk_of, log_of, under_way_of}
use Rattle.batcher_validator.specs.Unstarted.{HasNoVoter}
use Rattle.batcher_validator.specs.Disks.{with_write_done, with_write_given}
use Rattle.batcher_validator.specs.declared.next.Next.{Next}
use Rattle.batcher_validator.specs.declared.next.Next.TheVariants.{Do, Write}
use Rattle.batcher_validator.specs.declared.starting.DiskFault.{DiskFault}
use Rattle.batcher_validator.specs.declared.starting.DiskFault.TheVariants.{NotOpened, NotStarted}
use Rattle.batcher_validator.specs.declared.starting.DiskFault.TheVariants.{OutOfMemory as NoMemoryToStart}
use Rattle.batcher_node.specs.Events.{certificate_came, peer_in, vote_came}
use Rattle.batcher_node.specs.Nodes.{IsNext, NodeConfig, NodeView, WhyNotEntered, node_config}
use Rattle.batcher_node.specs.Nodes.{slot_at}
use Rattle.batcher_node.specs.Represents.{VoteMayNeed, ahead_answer, is_heard}
use Rattle.batcher_node.specs.Windows.{is_ahead}
use Rattle.batcher_node.specs.Verdicts.{LooksAtThere}
use Rattle.batcher_node.specs.declared.answers.Ahead.{Ahead}
use Rattle.batcher_node.specs.declared.answers.Cast.{Cast}
use Rattle.batcher_node.specs.declared.answers.Cast.TheVariants.{ToSend, Known as KnownVote}
use Rattle.batcher_node.specs.declared.answers.Cast.TheVariants.{Outside as OutsideVote}
use Rattle.batcher_node.specs.declared.answers.EnterFault.{EnterFault}
use Rattle.batcher_node.specs.declared.answers.Receipt.{Receipt}
use Rattle.batcher_node.specs.declared.answers.Verdict.{Verdict}
use Rattle.batcher_validator.specs.Histories.{ValidatorEvent, again, answered, chose, did, expired}
use Rattle.batcher_validator.specs.Histories.{refused}
use Rattle.batcher_validator.specs.Queues.{HasKey}
use Rattle.batcher_validator.specs.Running.{CatchesUp, ForEachRun, HasBegun, HasConstructed}
use Rattle.batcher_validator.specs.Running.{IsRunning, RunCasts, RunEnters, RunMayWrite, RunMeets}
use Rattle.batcher_validator.specs.Running.{RunStays, ValidatorView}
use Rattle.batcher_validator.specs.Shelves.{kind_and_round}
use Rattle.batcher_validator.specs.declared.task.PollFault.{PollFault}
use Rattle.batcher_validator.specs.declared.task.PollFault.TheVariants.{Closed, Full}
use Rattle.batcher_validator.specs.declared.task.PollFault.TheVariants.{OutOfMemory as NoMemoryToPoll}
use Rattle.batcher_voter.specs.Keeping.{IsKnownAlready}
use Rattle.batcher_voter.specs.Knowledge.{HasRoom}
use Rattle.batcher_voter.specs.Needing.{CertificateNeeds, ConstructionNeeds}
use Rattle.batcher_voter.specs.Remembering.{IsLeft}
use Rattle.batcher_voter.specs.Voting.{WhyNotCast}
use Rattle.batcher_voter.specs.declared.answers.CastFault.{CastFault}
use Rattle.batcher_voter.specs.declared.answers.CastFault.TheVariants.{Closed as NotOpen, Excluded}
use Rattle.batcher_voter.specs.declared.answers.CastFault.TheVariants.{Full as NoRoom, NotOwn}
use Rattle.batcher_voter.specs.declared.answers.CastFault.TheVariants.{OutOfMemory as NoMemoryToCast}
use Rattle.batcher_voter.specs.declared.answers.CastFault.TheVariants.{Refused}
use Rattle.batcher_voter.specs.declared.answers.CastFault.TheVariants.{Signed as SignedBefore}
use Rattle.batcher_voter.specs.declared.answers.StartFault.{StartFault}
use Rattle.batcher_voter.specs.declared.answers.StartFault.TheVariants.{OutOfMemory as NoMemoryForVoter}
use Rattle.batcher_verdicts.specs.Judging.{same_signature}
use Rattle.batcher_ffi.specs.contracts.caller.CallerTruth.TheImpl.{ghosts}
use Rattle.batcher_ffi.specs.declared.caller.Caller.{Caller}
use Rattle.batcher_ffi.specs.declared.codes.TheConstants.{BEGUN, CLOSED, DAMAGED, DONE, ELSEWHERE}
use Rattle.batcher_ffi.specs.declared.codes.TheConstants.{DROPPED, FORGED, FULL, IDLE, KNOWN}
use Rattle.batcher_ffi.specs.declared.codes.TheConstants.{MALFORMED, UNKNOWN}
use Rattle.batcher_ffi.specs.declared.codes.TheConstants.{NOT_BEGUN, NOT_GIVEN}
use Rattle.batcher_ffi.specs.declared.codes.TheConstants.{NOT_OWN, NOT_VERIFIED, NOT_WRITTEN}
use Rattle.batcher_ffi.specs.declared.codes.TheConstants.{OTHER_OWNER, OTHER_VERSION}
use Rattle.batcher_ffi.specs.declared.codes.TheConstants.{OUT_OF_MEMORY, REFUSED, SHORT}
use Rattle.batcher_ffi.specs.declared.codes.TheConstants.{SIGNED, VERIFY, WRITE}
use Rattle.batcher_ffi.specs.declared.flat.FlatAdmission.{FlatAdmission}
use Rattle.batcher_ffi.specs.declared.flat.FlatAttestation.{FlatAttestation}
use Rattle.batcher_ffi.specs.declared.flat.FlatProposal.{FlatProposal}
use Rattle.batcher_ffi.specs.declared.flat.FlatVote.{FlatVote}
use Rattle.batcher_ffi.specs.declared.starting.TheConstants.{MOST_AHEAD, MOST_PARTICIPANTS}
use Rattle.batcher_ffi.specs.declared.starting.ValidatorOptions.{ValidatorOptions}
use Rattle.batcher_ffi.specs.declared.tasks.FlatTask.{FlatTask}
use Rattle.batcher_ffi.specs.Flat.{fault_in, kind_in, proposal_of_flat, raw_in}
use Rattle.batcher_ffi.specs.Flat.{round_of_flat, subject_in, vote_of_flat}
use Rattle.batcher_ffi.specs.Answers.{AnswersVote, ahead_code, enter_code, receipt_code}
use Rattle.batcher_ffi.specs.Answers.{verdict_code}
use Rattle.batcher_ffi.specs.Certificates.{AreVerdictsOn, certifies_by, listing_in}
use Rattle.batcher_ffi.specs.Output.{FillsRoom, WritesAll}
use Rattle.batcher_ffi.specs.Rounds.{is_one_of}
use Rattle.batcher_ffi.specs.Tasks.{IsProposedIn, OthersStay, task_in}

-- a validator as C has it
abbrev pub CValidator : Type 0
CValidator = ValidatorView (Signed Caller 1) Signature Sha256Digest CopiedView ProofView

-- what a scheme means whose certificates are kept with their verdicts
abbrev pub signed_meaning : List Name → Keys → Meaning Sha256Digest Name Signature ProofView
signed_meaning participants keys =
    record {
      participants = participants;
      batchable = true;
      attests = λ subject a. attests ghosts keys (length participants) subject a;
      certifies = λ subject c. vouches subject c;
      left_by_verifying = λ subject pending stream. stream;
      assembled_at_once = λ subject pending verified stream. proved_at_once ghosts keys
          (length participants) subject pending verified stream;
      assembled = λ subject prior fresh. proof_of subject (prior ++ fresh);
    }

-- the configuration of its rounds
abbrev pub config_by : NodeView (Signed Caller 1) Signature Sha256Digest
    → NodeConfig Sha256Digest Name Signature ProofView
config_by node =
    node_config (λ s. signed_meaning s.participants s.keys) (λ a b. nat_cmp a.0 b.0) same_signature
    same_digest node

abbrev pub validator_config : CValidator → NodeConfig Sha256Digest Name Signature ProofView
validator_config l = config_by l.voter.node

-- and of one of them
abbrev pub validator_round_config : RoundView (Signed Caller 1) Signature Sha256Digest
    → Config Sha256Digest Name Signature ProofView
validator_round_config round =
    round_config (λ s. signed_meaning s.participants s.keys) (λ a b. nat_cmp a.0 b.0) same_signature
    same_digest round

-- which keys its participants have, and how many these are
abbrev pub validator_keys : CValidator → Keys
validator_keys l = l.voter.node.scheme.keys

abbrev pub validator_participants : CValidator → ℕ
validator_participants l = length l.voter.node.scheme.participants

-- what its disk is to have, and what the caller has written there
abbrev pub validator_log : CValidator → List ℕ
validator_log l = log_of l

abbrev pub validator_copy : CValidator → CopyView
validator_copy l = l.voter.journal.log.copy

abbrev pub validator_disk : CValidator → List ℕ
validator_disk l = disk_of l

-- the number of the write that is under way, and what the disk has once that is done
abbrev pub validator_writing : CValidator → Option (ℕ × List ℕ)
validator_writing l = under_way_of l

-- what is signed for a subject, in the namespace of its journal's owner
abbrev pub validator_namespace : CValidator → List ℕ
validator_namespace l = l.voter.journal.contents.owner.1.1.1.1

-- Bytes to sign for a subject are given, where its kind is one.
abbrev pub GivesMessage : List ℕ → ℕ → ℕ → FlatProposal → List ℕ → List ℕ → ℕ → ℕ → Type 0
GivesMessage namespace code kind proposal room list old count =
    MatchOption (subject_in kind proposal)
    ((code ≡ MALFORMED) × ((list ≡ room) × (count ≡ old)))
    (λ subject. WritesAll ((signing_format sha256_format).encoding (namespace, subject)) room list
    count code)

-- the certificates that it keeps
abbrev pub kept_in : CValidator → List (Certificate ProofView Sha256Digest)
kept_in l = l.shelf.certificates

-- What a caller has verified, by the keys of the validator: those that the bytes of a certificate
-- list.
abbrev pub AreVerifiedIn : CValidator → ℕ → FlatProposal → List ℕ → List Bool → Type 0
AreVerifiedIn l kind proposal bytes verdicts =
    IfSome (subject_in kind proposal) (λ subject.
    AreVerdictsOn (validator_keys l) (validator_participants l) subject bytes verdicts)

-- and the votes of earlier lives that its journal has
abbrev pub earlier_in : CValidator → List (Vote Signature Sha256Digest)
earlier_in l = take l.given.tally.begun l.voter.journal.contents.votes

-- why there is no validator of what a disk has
abbrev pub open_code : OpenFault → ℕ
open_code NoMemoryToOpen = OUT_OF_MEMORY
open_code NotBegun = NOT_BEGUN
open_code OtherVersion = OTHER_VERSION
open_code OtherLengths = OTHER_OWNER
open_code OtherParticipant = OTHER_OWNER
open_code OtherKeys = OTHER_OWNER
open_code OtherNamespace = OTHER_OWNER
open_code NoJournal = DAMAGED
open_code Contradiction = DAMAGED

abbrev pub voter_code : StartFault → ℕ
voter_code NoMemoryForVoter = OUT_OF_MEMORY
voter_code fault = DAMAGED

abbrev pub start_code : DiskFault → ℕ
start_code NoMemoryToStart = OUT_OF_MEMORY
start_code (NotOpened fault) = open_code fault
start_code (NotStarted fault) = voter_code fault

abbrev pub start_codes : List ℕ
start_codes =
    OUT_OF_MEMORY ∷ NOT_BEGUN ∷ OTHER_VERSION ∷ OTHER_OWNER ∷ DAMAGED ∷ []

-- whose journal it is
abbrev pub owner_in : ValidatorOptions → List ℕ → OwnerFields
owner_in options namespace = (32, (WIDTH, (options.participant, (options.keys, namespace))))

-- A validator is of this scheme and this owner, and looks so many views ahead.
pub record IsOf (options : ValidatorOptions) (scheme : Signed Caller 1) (owner : OwnerFields)
    (l : CValidator) : Type 0 where
  pub scheme_is : l.voter.node.scheme ≡ scheme
  pub epoch_is : l.voter.node.epoch ≡ record { 0 = options.epoch }
  pub owner_is : l.voter.journal.contents.owner ≡ owner
  pub ahead_is : l.voter.node.window.ahead ≡ options.ahead
  pub retains_is : l.voter.node.retains ≡ options.track_historical_votes

-- It begins where nothing is on the disk, or goes on from what its participant did.
abbrev pub GoesOnFrom : Bool → List ℕ → CValidator → Type 0
GoesOnFrom begins disk l =
    MatchBool begins
    ((disk ≡ [])
    × HasBegun (validator_config l) (certificate_format proof_format sha256_format) [] l)
    ((earlier : Conduct Sha256Digest)
    → IsLeft (vote_format signature_format sha256_format) earlier disk
    → HasBegun (validator_config l) (certificate_format proof_format sha256_format) earlier
    l)

-- It takes part, and there aren't too many participants or views ahead.
abbrev pub AreWithin : ValidatorOptions → Type 0
AreWithin options =
    (options.participant < options.participants)
    × ((options.participants ≤ MOST_PARTICIPANTS) × (options.ahead ≤ MOST_AHEAD))

-- Its options are within bounds, and its participant begins just where the disk has nothing.
abbrev pub MayBeMade : ValidatorOptions → List ℕ → Type 0
MayBeMade options disk =
    AreWithin options × MatchBool options.begins (disk ≡ []) (disk ≢ [])

pub record IsMade (options : ValidatorOptions) (namespace disk : List ℕ) (l : CValidator)
    : Type 0 where
  pub may_be : MayBeMade options disk
  pub participants_are : validator_participants l ≡ options.participants
  pub keys_are : validator_keys l ≡ record { 0 = options.keys }
  pub epoch_is : l.voter.node.epoch ≡ record { 0 = options.epoch }
  pub owner_is : l.voter.journal.contents.owner ≡ owner_in options namespace
  pub ahead_is : l.voter.node.window.ahead ≡ options.ahead
  pub retains_is : l.voter.node.retains ≡ options.track_historical_votes
  pub goes_on : GoesOnFrom options.begins disk l
  pub on_disk : validator_disk l ≡ disk
  pub no_write : validator_writing l ≡ None

-- The journal on the disk is of another owner, or of another epoch.
abbrev pub IsOthers : ValidatorOptions → OwnerFields → List ℕ → Type 0
IsOthers options owner disk =
    ((fault : OpenFault) × IsAnothers disk owner fault)
    ⊎ ((contents : Contents Signature Sha256Digest)
    × (IsText (vote_format signature_format sha256_format) disk contents
    × (contents.floor.epoch ≢ record { 0 = options.epoch })))

-- The bytes are no journal's, or of one whose votes contradict each other, or make no voter.
abbrev pub AreDamaged : OwnerFields → List ℕ → Type 0
AreDamaged owner disk =
    AreNoText (vote_format signature_format sha256_format) disk owner
    ⊎ (Contradicts (vote_format signature_format sha256_format) disk owner same_digest
    ⊎ ((fault : StartFault) × ((fault ≢ NoMemoryForVoter) × HasNoVoter owner disk fault)))

pub record WhyNotMade (options : ValidatorOptions) (namespace disk : List ℕ) (code : ℕ)
    : Type 0 where
  pub codes : is_one_of (MALFORMED ∷ BEGUN ∷ start_codes) code ≡ true
  pub malformed : code ≡ MALFORMED → AreWithin options → ⊥
  pub begun : code ≡ BEGUN → (options.begins ≡ true) × (disk ≢ [])
  pub not_begun : code ≡ NOT_BEGUN → disk ≡ []
  pub others : code ≡ OTHER_OWNER → IsOthers options (owner_in options namespace) disk
  pub other_version : code ≡ OTHER_VERSION → owner_format.decoding disk ≡ Err Version
  pub damaged : code ≡ DAMAGED → AreDamaged (owner_in options namespace) disk
  pub needed : code ≡ OUT_OF_MEMORY → MayBeMade options disk

-- what is to be done next, or why that isn't said
abbrev pub AnswersPoll : Result (Option Next) PollFault → ℕ → FlatTask → FlatTask → Type 0
AnswersPoll (Ok (Some (Do task))) code old out =
    (code ≡ DONE) × ((task_in out ≡ Some task) × OthersStay task old out)
AnswersPoll (Ok (Some Write)) code old out = (code ≡ WRITE) × (out ≡ old)
AnswersPoll (Ok None) code old out = (code ≡ IDLE) × (out ≡ old)
AnswersPoll (Err NoMemoryToPoll) code old out = (code ≡ OUT_OF_MEMORY) × (out ≡ old)
AnswersPoll (Err Full) code old out = (code ≡ FULL) × (out ≡ old)
AnswersPoll (Err Closed) code old out = (code ≡ CLOSED) × (out ≡ old)

-- What a vote of its own is answered that is cast. Where the node excludes it, the code says why.
abbrev pub CastCode : Result (Cast Signature Sha256Digest) (CastFault Signature Sha256Digest) → ℕ
    → Type 0
CastCode (Ok (ToSend report)) code = code ≡ DONE
CastCode (Ok KnownVote) code = code ≡ KNOWN
CastCode (Ok OutsideVote) code = code ≡ ELSEWHERE
CastCode (Err NoMemoryToCast) code = code ≡ OUT_OF_MEMORY
CastCode (Err NoRoom) code = code ≡ FULL
CastCode (Err NotOwn) code = code ≡ NOT_OWN
CastCode (Err (SignedBefore known)) code = code ≡ SIGNED
CastCode (Err (Refused rule)) code = code ≡ REFUSED
CastCode (Err NotOpen) code = code ≡ CLOSED
CastCode (Err (Excluded fault)) code = fault_in code ≡ Some fault

-- The next construction looks at no attestations.
abbrev pub LendsNone : CValidator → Type 0
LendsNone l =
    (view : ℕ) (subject : Subject Sha256Digest) (all : List (Attestation Signature))
    → IsNext l.voter.node.rounds view
    → LooksAtThere validator_round_config (slot_at l.voter.node.rounds view) subject all → ⊥

-- whether what a peer sends is looked at, whose key is the number
abbrev pub hears_code : CValidator → ℕ → ℕ
hears_code l peer =
    cond (is_heard (validator_config l) l.voter.node
    (peer_in (validator_config l) (record { 0 = peer }))) DONE DROPPED

-- whether a round is of another epoch, or of a view before the final one
abbrev pub is_over_in : CValidator → Round → Bool
is_over_in l round =
    not (round.epoch.0 == l.voter.node.epoch.0)
    || nat_lt round.view.0 l.voter.node.window.finalized

-- Questions to a validator, and what is answered to them. It stays as it was.
module _ (l : CValidator) (code : ℕ) where
  -- What is to be written, behind what is there or in its place, where no write is under way.
  pub record AsksOwed (room list : List ℕ) (old count : ℕ) (was replaces : Bool) : Type 0 where
    pub codes : is_one_of (DONE ∷ IDLE ∷ SHORT ∷ []) code ≡ true
    pub none : code ≡ IDLE → validator_writing l ≡ None → validator_disk l ≡ validator_log l
    pub stays : code ≡ IDLE → (list ≡ room) × ((count ≡ old) × (replaces ≡ was))
    pub owed : List ℕ
    pub has_all : code ≢ IDLE
        → MatchBool replaces (owed ≡ validator_log l) (validator_disk l ++ owed ≡ validator_log l)
    pub lacks : code ≢ IDLE → validator_disk l ≢ validator_log l
    pub waits : code ≢ IDLE → validator_writing l ≡ None
    pub written : code ≢ IDLE → WritesAll owed room list count code

  -- Which view it is in, and the highest that is final: none is where they are 0.
  pub record AsksViews (current last : ℕ) : Type 0 where
    pub codes : code ≡ DONE
    pub current_is : current ≡ l.voter.node.window.current
    pub last_is : last ≡ l.voter.node.window.finalized

  -- The attestations that the bytes of a certificate list, where they are those of a quorum.
  pub record AsksListing (bytes : List ℕ) (room list : List FlatAttestation) (old count : ℕ)
      : Type 0 where
    pub codes : is_one_of (VERIFY ∷ FORGED ∷ SHORT ∷ OUT_OF_MEMORY ∷ []) code ≡ true
    pub listed : code ≡ VERIFY → IsSomeAnd (listing_in (validator_participants l) bytes) (λ all.
        (count ≡ length all) × FillsRoom raw_in all room list)
    pub forged : code ≡ FORGED → listing_in (validator_participants l) bytes ≡ None
    pub short : code ≡ SHORT → length room < validator_participants l
    pub fits : code ≡ VERIFY → validator_participants l ≤ length room
    pub needed : code ≡ OUT_OF_MEMORY → 1 ≤ length bytes
    pub stays : code ≢ VERIFY → (list ≡ room) × (count ≡ old)

  -- Whether a certificate of a kind and a round is looked at that a peer sends, and why it isn't.
  pub record SaysIfWanted (peer : ℕ) (kind : Kind) (round : Round) : Type 0 where
    pub codes : is_one_of (DONE ∷ KNOWN ∷ ELSEWHERE ∷ DROPPED ∷ UNKNOWN ∷ []) code ≡ true
    pub unknown : code ≡ UNKNOWN → validator_participants l ≤ peer
    pub takes_part : code ≢ UNKNOWN → peer < validator_participants l
    pub dropped : code ≡ DROPPED → hears_code l peer ≡ DROPPED
    pub heard : is_one_of (DONE ∷ KNOWN ∷ ELSEWHERE ∷ []) code ≡ true → hears_code l peer ≡ DONE
    pub over : code ≡ ELSEWHERE → is_over_in l round ≡ true
    pub not_over : is_one_of (DONE ∷ KNOWN ∷ []) code ≡ true → is_over_in l round ≡ false
    pub known : code ≡ KNOWN → HasKey kind_and_round (kept_in l) (kind, round)
    pub none : code ≡ DONE → HasKey kind_and_round (kept_in l) (kind, round) → ⊥

  abbrev pub AsksWanted : ℕ → ℕ → FlatProposal → Type 0
  AsksWanted peer kind proposal =
      MatchOption (kind_in kind) (code ≡ MALFORMED) (λ typed.
      SaysIfWanted peer typed (round_of_flat proposal))

  -- A certificate is kept, and its proposal is written.
  pub record NamesKept (key : Kind × Round) (kind : ℕ) (out : FlatProposal) : Type 0 where
    pub codes : code ≡ DONE
    pub certificate : Certificate ProofView Sha256Digest
    pub there : Contains (kept_in l) certificate
    pub key_is : kind_and_round certificate ≡ key
    pub subject : subject_in kind out ≡ Some (subject_certified certificate)

  -- One of a kind and a round, if it is kept.
  abbrev pub AsksCertified : ℕ → FlatProposal → FlatProposal → Type 0
  AsksCertified kind asked out =
      MatchOption (kind_in kind) ((code ≡ MALFORMED) × (out ≡ asked)) (λ typed.
      NamesKept (typed, round_of_flat asked) kind out
      ⊎ ((code ≡ IDLE) × ((out ≡ asked)
      × (HasKey kind_and_round (kept_in l) (typed, round_of_flat asked) → ⊥))))

  -- A certificate is kept, and its bytes and its proposal are written.
  pub record GivesKept (key : Kind × Round) (kind : ℕ) (asked out : FlatProposal)
      (room list : List ℕ) (count : ℕ) : Type 0 where
    pub certificate : Certificate ProofView Sha256Digest
    pub there : Contains (kept_in l) certificate
    pub key_is : kind_and_round certificate ≡ key
    pub bytes : WritesAll (content_of certificate).bytes room list count code
    pub subject : code ≡ DONE → subject_in kind out ≡ Some (subject_certified certificate)
    pub short : code ≡ SHORT → out ≡ asked

  -- One of a kind and a round is written, if it is kept.
  abbrev pub ShowsKept : Kind → ℕ → FlatProposal → FlatProposal → List ℕ → List ℕ → ℕ → ℕ
      → Type 0
  ShowsKept typed kind asked out room list old count =
      GivesKept (typed, round_of_flat asked) kind asked out room list count
      ⊎ ((code ≡ IDLE) × ((list ≡ room) × ((out ≡ asked) × ((count ≡ old)
      × (HasKey kind_and_round (kept_in l) (typed, round_of_flat asked) → ⊥)))))

  -- Where something isn't written, the certificate may have an own vote that the disk lacks.
  abbrev pub AsksKept : ℕ → FlatProposal → FlatProposal → List ℕ → List ℕ → ℕ → ℕ → Type 0
  AsksKept kind asked out room list old count =
      MatchOption (kind_in kind)
      ((code ≡ MALFORMED) × ((list ≡ room) × ((out ≡ asked) × (count ≡ old)))) (λ typed.
      (IsAllWritten l × ShowsKept typed kind asked out room list old count)
      ⊎ ((code ≡ NOT_WRITTEN) × ((IsAllWritten l → ⊥)
      × ((list ≡ room) × ((out ≡ asked) × (count ≡ old))))))

-- Calls of a validator, and what is answered to them.
module _ (before : CValidator) (code : ℕ) (after : CValidator) where
  -- it goes on with one more event
  abbrev pub Notes : ValidatorEvent Sha256Digest Name Signature ProofView → Type 0
  Notes event = RunMeets (validator_config before) before after event

  -- nothing happened that counts
  abbrev pub ValidatorRests : Type 0
  ValidatorRests = RunStays (validator_config before) before after

  -- What is handed in has a meaning, of which it holds. Else the code says so, and nothing changes.
  abbrev pub IfRead : {A : Type 0} → Option A → Type 0 → (A → Type 0) → Type 0
  IfRead None stays holds = (code ≡ MALFORMED) × ((after ≡ before) × stays)
  IfRead (Some read) stays holds = holds read

  -- What is to be done next, by what the validator gives.
  pub record Polls (old out : FlatTask) : Type 0 where
    pub answer : Result (Option Next) PollFault
    pub gives : GivesNext (validator_config before) before after answer
    pub written : AnswersPoll answer code old out
    pub proposed : IsProposedIn before.voter.node.epoch out ⊎ (code ≢ DONE)
    pub on_disk : validator_copy after ≡ validator_copy before

  -- What is handed out is under way, and nothing else changes.
  pub record Gave (number : ℕ) : Type 0 where
    pub given : code ≡ DONE → after ≡ with_write_given before number
    pub refused : code ≢ DONE → after ≡ before
    pub rests : ValidatorRests

  -- What was under way is written, and nothing that came since.
  pub record Wrote (number : ℕ) : Type 0 where
    pub codes : is_one_of (DONE ∷ NOT_GIVEN ∷ []) code ≡ true
    pub was_given : code ≡ DONE
        → option_map (λ it. it.0) (validator_writing before) ≡ Some number
    pub written : code ≡ DONE → after ≡ with_write_done before
    pub not_given : code ≡ NOT_GIVEN
        → option_map (λ it. it.0) (validator_writing before) ≢ Some number
    pub refused : code ≡ NOT_GIVEN → after ≡ before
    pub rests : ValidatorRests

  -- a vote of a peer, whose key is the number
  pub record VoteCame (peer : ℕ) (vote : Vote Signature Sha256Digest) (old out : FlatAdmission)
      : Type 0 where
    pub answer : Result (Receipt (Admission Signature Sha256Digest)) AllocError
    pub written : AnswersVote answer code old out
    pub meets : IfOk answer (λ receipt.
        Notes (did (called (vote_came (record { 0 = peer }) vote receipt))))
    pub needed : OnErr answer (VoteMayNeed (validator_config before) before.voter.node
        (record { 0 = peer }) vote)
    pub refused : OnErr answer (after ≡ before)
    pub on_disk : validator_copy after ≡ validator_copy before

  abbrev pub HearsVote : ℕ → FlatVote → FlatAdmission → FlatAdmission → Type 0
  HearsVote peer vote old out =
      IfRead (vote_of_flat vote) (out ≡ old) (λ typed. VoteCame peer typed old out)

  -- There is no room for another certificate.
  abbrev pub IsShelfFull : Type 0
  IsShelfFull = before.shelf.room ≡ 0

  -- A certificate is taken in as one that a peer sent,
  pub record IsOfPeer (peer : ℕ) (certificate : Certificate ProofView Sha256Digest) : Type 0 where
    pub answer : Result (Receipt Verdict) AllocError
    pub code_is : code ≡ receipt_code verdict_code answer
    pub meets : IfOk answer (λ receipt.
        Notes (did (called (certificate_came (record { 0 = peer }) certificate receipt))))
    pub needed : OnErr answer (IsShelfFull ⊎ CertificateNeeds (validator_config before)
        before.voter (record { 0 = peer }) certificate)
    pub refused : OnErr answer ValidatorRests

  -- or from beyond the window, where who fell behind goes on by it: it is learned and kept.
  pub record IsFromAhead (peer : ℕ) (certificate : Certificate ProofView Sha256Digest) : Type 0
    where
      pub answer : Result (Receipt Ahead) AllocError
      pub code_is : code ≡ receipt_code ahead_code answer
      pub answer_is : IfOk answer (λ given. given ≡ ahead_answer (validator_config before)
          before.voter.node (record { 0 = peer }) certificate)
      pub meets : IfOk answer (λ given. CatchesUp (validator_config before) before
          (record { 0 = peer }) certificate given after)
      pub needed : OnErr answer (IsShelfFull
          ⊎ (HasRoom before.voter.knowledge
          (round_in (subject_certified certificate)).view.0
          → IsKnownAlready before.voter.knowledge (subject_certified certificate) → ⊥))
      pub refused : OnErr answer ValidatorRests

  -- memory is refused for the copy of its bytes
  pub record IsNotCopied (bytes : List ℕ) : Type 0 where
    pub code_is : code ≡ OUT_OF_MEMORY
    pub some : 1 ≤ length bytes
    pub same : after ≡ before

  -- Its bytes are copied first, with whether they certify.
  pub record CertificateCame (peer : ℕ) (subject : Subject Sha256Digest) (bytes : List ℕ)
      (certifies : Bool) : Type 0 where
    pub certificate : Certificate ProofView Sha256Digest
    pub subject_is : subject_certified certificate ≡ subject
    pub content_is : content_of certificate ≡ record {
      subject = subject;
      certifies = certifies;
      bytes = bytes;
    }
    pub came : MatchBool (is_ahead before.voter.node.epoch
        before.voter.node.window (round_in subject)) (IsFromAhead peer certificate)
        (IsOfPeer peer certificate)
    pub on_disk : validator_copy after ≡ validator_copy before

  -- there isn't one verdict on each attestation that its bytes list
  pub record IsUnlike (bytes : List ℕ) (verdicts : List Bool) : Type 0 where
    pub code_is : code ≡ MALFORMED
    pub unlike : IsSomeAnd (listing_in (validator_participants before) bytes) (λ all.
        length verdicts ≢ length all)
    pub same : after ≡ before

  -- Whether they certify is what is true of them.
  abbrev pub HearsCertificate : ℕ → ℕ → FlatProposal → List ℕ → List Bool → Type 0
  HearsCertificate peer kind proposal bytes verdicts =
      IfRead (subject_in kind proposal) (Unit {0}) (λ subject.
      IsUnlike bytes verdicts ⊎ (IsNotCopied bytes ⊎ CertificateCame peer subject bytes
      (certifies_by (validator_keys before) (validator_participants before) subject bytes)))

  -- A construction without verdicts is made, or its view rests.
  pub record RestsWithout : Type 0 where
    pub codes : (code ≡ IDLE) ⊎ (code ≡ OUT_OF_MEMORY)
    pub rests : code ≡ IDLE
        → HasConstructed (validator_config before) before after ⊎ Notes answered
    pub needed : code ≡ OUT_OF_MEMORY
        → IsShelfFull ⊎ ConstructionNeeds (validator_config before) before.voter
    pub refused : code ≡ OUT_OF_MEMORY → ValidatorRests
    pub on_disk : validator_copy after ≡ validator_copy before

  -- A construction is made by verdicts, or they are of something else.
  pub record IsConcluded (subject : Subject Sha256Digest) (all : List (Attestation Signature))
      : Type 0 where
    pub codes : is_one_of (DONE ∷ IDLE ∷ OUT_OF_MEMORY ∷ []) code ≡ true
    pub made : code ≡ DONE → HasConstructed (validator_config before) before after
    pub answered_only : code ≡ IDLE → Notes answered
    pub not_stale : (view : ℕ) → IsNext before.voter.node.rounds view
        → LooksAtThere validator_round_config (slot_at before.voter.node.rounds view) subject
        all → code ≢ IDLE
    pub needed : code ≡ OUT_OF_MEMORY
        → IsShelfFull ⊎ ConstructionNeeds (validator_config before) before.voter
    pub refused : code ≡ OUT_OF_MEMORY → ValidatorRests
    pub on_disk : validator_copy after ≡ validator_copy before

  -- a vote of its own that attests
  pub record VoteCast (vote : Vote Signature Sha256Digest) : Type 0 where
    pub answer : Result (Cast Signature Sha256Digest) (CastFault Signature Sha256Digest)
    pub code_is : CastCode answer code
    pub meets : IfOk answer (λ cast.
        RunCasts (validator_config before) before vote cast after)
    pub refused : OnErr answer (ForEachRun (validator_config before) before (λ past earlier.
        RunMayWrite (validator_config before) vote past earlier after))
    pub why : IfErr answer (λ fault. WhyNotCast (validator_config before) same_digest
        before.voter vote fault after.voter)
    pub full : code ≢ FULL
    pub on_disk : validator_copy after ≡ validator_copy before

  -- One that doesn't attest, or whose signer takes no part. Nothing is written.
  pub record IsNotVerified (vote : Vote Signature Sha256Digest) (attests : Bool) : Type 0 where
    pub code_is : code ≡ NOT_VERIFIED
    pub why :
        (nat_lt (attestation_of vote).signer.0 (validator_participants before) && attests) ≡ false
    pub refuses : Notes (refused (subject_of vote))
    pub unwritten : after.voter ≡ before.voter

  abbrev pub CastsOwn : FlatVote → Bool → Type 0
  CastsOwn vote attests =
      IfRead (vote_of_flat vote) (Unit {0}) (λ typed. IsNotVerified typed attests ⊎ VoteCast typed)

  -- A view, with its leader. It is given up where that is blocked, or absent.
  pub record EntersWith (view leader : ℕ) : Type 0 where
    pub answer : Result ⊤ EnterFault
    pub code_is : code ≡ enter_code answer
    pub meets : OnOk answer (RunEnters (validator_config before) view (participant leader)
        before after)
    pub why : IfErr answer (WhyNotEntered before.voter.node view (participant leader))
    pub refused : OnErr answer (after ≡ before)
    pub on_disk : validator_copy after ≡ validator_copy before

  -- Who takes no part leads no view.
  abbrev pub Enters : ℕ → ℕ → Type 0
  Enters view leader =
      MatchBool (nat_lt leader (validator_participants before)) (EntersWith view leader)
      ((code ≡ UNKNOWN) × (after ≡ before))

  -- Whether a proposal is valid. Of a view that it isn't in yet nothing is noted.
  pub record Judges (proposal : FlatProposal) (valid : Bool) : Type 0 where
    pub codes : code ≡ DONE
    pub chooses : valid ≡ true → proposal.view ≤ before.voter.node.window.current
        → Notes (chose (proposal_of_flat proposal))
    pub gives_up : valid ≡ false → proposal.view ≤ before.voter.node.window.current
        → Notes (expired proposal.view)
    pub ahead : before.voter.node.window.current < proposal.view → after ≡ before
    pub on_disk : validator_copy after ≡ validator_copy before

  -- The time of a view is over, and a part of what was sent is to be given again.
  pub record Expires (view : ℕ) : Type 0 where
    pub codes : code ≡ DONE
    pub expires : view ≤ before.voter.node.window.current
        → ForEachRun (validator_config before) before (λ past earlier.
        IsRunning (validator_config before) (again ∷ expired view ∷ past) earlier after)
    pub ahead : before.voter.node.window.current < view → Notes again
    pub on_disk : validator_copy after ≡ validator_copy before
