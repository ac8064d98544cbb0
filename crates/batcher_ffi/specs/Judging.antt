-- What is handed out of a validator to be verified, and what its caller's verdicts on that do.
use Rattle.std.specs.Prelude.{◌≡◌, ◌≢◌, ◌<◌, ◌≤◌, ◌⊎◌, ℕ, Bool, true, List, [], ◌∷◌, length, Option}
use Rattle.std.specs.Prelude.{None, Some, IfSome, IsSomeAnd, MatchOption}
use Rattle.batcher_types.specs.declared.messages.Attestation.{Attestation}
use Rattle.batcher_types.specs.declared.messages.Kind.{Kind}
use Rattle.batcher_types.specs.declared.messages.Sha256Digest.{Sha256Digest}
use Rattle.batcher_types.specs.declared.messages.Subject.{Subject}
use Rattle.batcher_bytes.specs.declared.signature.Signature.{Signature}
use Rattle.batcher_node.specs.Nodes.{IsAtRest, IsNext, slot_at}
use Rattle.batcher_node.specs.Verdicts.{LooksAtKindThere, LooksAtThere}
use Rattle.batcher_verdicts.specs.Requests.{AreJudged, AreTrueAt, DropsPassed, HandsOut, IsLeftAt}
use Rattle.batcher_verdicts.specs.Requests.{IsStamped, JudgesStamped, MayBeRefused, RequestsView}
use Rattle.batcher_verdicts.specs.Requests.{request_at, request_key, request_key_in}
use Rattle.batcher_ffi.specs.declared.codes.TheConstants.{DONE, IDLE, MALFORMED, OUT_OF_MEMORY}
use Rattle.batcher_ffi.specs.declared.codes.TheConstants.{SHORT, STALE, VERIFY}
use Rattle.batcher_ffi.specs.declared.flat.FlatAttestation.{FlatAttestation}
use Rattle.batcher_ffi.specs.declared.flat.FlatProposal.{FlatProposal}
use Rattle.batcher_ffi.specs.declared.flat.FlatStep.{FlatStep}
use Rattle.batcher_ffi.specs.declared.flat.FlatVote.{FlatVote}
use Rattle.batcher_ffi.specs.Flat.{kind_in, raw_in, subject_in}
use Rattle.batcher_ffi.specs.Output.{FillsRoom}
use Rattle.batcher_ffi.specs.Rounds.{IsVerifiedBy, is_one_of}
use Rattle.batcher_ffi.specs.Validators.{AreVerifiedIn, CValidator, IsConcluded, LendsNone}
use Rattle.batcher_ffi.specs.Validators.{RestsWithout, validator_keys}
use Rattle.batcher_ffi.specs.Validators.{validator_config, validator_participants}
use Rattle.batcher_ffi.specs.Validators.{validator_round_config}

-- a validator, with what was handed out of it to be verified, and the verdicts that came back
pub record JudgedValidatorView : Type 0 where
  pub validator : CValidator
  pub requests : RequestsView Signature Sha256Digest

-- Nothing was handed out.
abbrev pub IsUnasked : JudgedValidatorView → Type 0
IsUnasked j = (key : ℕ) → request_at j.requests key ≡ None

-- whether an attestation attests, by the scheme of the validator
abbrev pub attests_by : CValidator → Subject Sha256Digest → Attestation Signature → Bool
attests_by l = (validator_config l).meaning.attests

-- The next construction is about the subject, and looks at these.
abbrev pub LooksAtNow : CValidator → Subject Sha256Digest → List (Attestation Signature) → Type 0
LooksAtNow l subject waiting =
    (view : ℕ) → IsNext l.voter.node.rounds view
    → LooksAtThere validator_round_config (slot_at l.voter.node.rounds view) subject waiting

-- The same of an attempt at a kind of a view.
abbrev pub LooksAtOf : CValidator → ℕ → Kind → Subject Sha256Digest → List (Attestation Signature)
    → Type 0
LooksAtOf l view kind =
    LooksAtKindThere validator_round_config (slot_at l.voter.node.rounds view) kind

-- What is handed out by a call, in order: what the attestations are to attest, and how many they
-- are; the stamp; and they themselves.
pub record Output : Type 0 where
  pub step : FlatStep
  pub stamp : ℕ
  pub list : List FlatAttestation

abbrev pub output : FlatStep → ℕ → List FlatAttestation → Output
output step stamp list = record { step = step; stamp = stamp; list = list }

-- A verdict on each of these was taken in.
abbrev pub AreThere : RequestsView Signature Sha256Digest → ℕ → Subject Sha256Digest
    → List (Attestation Signature) → List Bool → Type 0
AreThere requests key subject list verdicts =
    IsSomeAnd (request_at requests key) (λ r. AreJudged r subject list verdicts)

-- A verdict on each that the next construction looks at was taken in, of this kind and view.
pub record IsJudgedAt (j : JudgedValidatorView) (kind : Kind) (view : ℕ) : Type 0 where
  pub subject : Subject Sha256Digest
  pub list : List (Attestation Signature)
  pub verdicts : List Bool
  pub looks_at : LooksAtNow j.validator subject list
  pub there : AreThere j.requests (request_key_in kind view) subject list verdicts

-- The next construction looks at something that isn't verified.
abbrev pub HasUnverified : CValidator → Type 0
HasUnverified l =
    (view : ℕ) (subject : Subject Sha256Digest) → IsNext l.voter.node.rounds view
    → LooksAtThere validator_round_config (slot_at l.voter.node.rounds view) subject [] → ⊥

-- On what the next construction looks at some verdict isn't there.
abbrev pub IsNotJudged : JudgedValidatorView → Type 0
IsNotJudged j =
    (view : ℕ) (subject : Subject Sha256Digest) (list : List (Attestation Signature))
    (verdicts : List Bool) → IsNext j.validator.voter.node.rounds view
    → LooksAtThere validator_round_config (slot_at j.validator.voter.node.rounds view) subject list
    → AreThere j.requests (request_key subject) subject list verdicts → ⊥

-- The first view of which something may be constructed, or the one that it is in, where there is
-- none.
abbrev pub IsFirstDue : CValidator → ℕ → Type 0
IsFirstDue l view =
    IsNext l.voter.node.rounds view
    ⊎ (IsAtRest l.voter.node × (view ≡ l.voter.node.window.current))

-- What was handed out of views before that is dropped.
pub record DropsRested (old new : RequestsView Signature Sha256Digest) (l : CValidator) : Type 0
  where
    pub first : ℕ
    pub due : IsFirstDue l first
    pub drops : DropsPassed old new first

-- what a caller has verified of what was handed out by a stamp
abbrev pub AreTrueNow : JudgedValidatorView → ℕ → ℕ → ℕ → List Bool → Type 0
AreTrueNow j view kind stamp verdicts =
    IfSome (kind_in kind) (λ typed. AreTrueAt (attests_by j.validator)
    (request_at j.requests (request_key_in typed view)) stamp verdicts)

-- The same by a handle, and what he has verified of a vote of its own, and of what the bytes of a
-- certificate list.
module _ (handle : Option JudgedValidatorView) where
  abbrev pub AreTrueFor : ℕ → ℕ → ℕ → List Bool → Type 0
  AreTrueFor view kind stamp verdicts =
      IfSome handle (λ j. AreTrueNow j view kind stamp verdicts)

  abbrev pub IsVerifiedFor : FlatVote → Bool → Type 0
  IsVerifiedFor vote attests =
      IfSome handle (λ j. IsVerifiedBy (validator_keys j.validator) vote attests)

  abbrev pub AreVerifiedFor : ℕ → FlatProposal → List ℕ → List Bool → Type 0
  AreVerifiedFor kind proposal bytes verdicts =
      IfSome handle (λ j. AreVerifiedIn j.validator kind proposal bytes verdicts)

-- What is left of what waits for the subject is handed out, by the next stamp.
pub record HandsThemOut (old new : RequestsView Signature Sha256Digest)
    (subject : Subject Sha256Digest) (waiting : List (Attestation Signature)) (was is : Output)
    : Type 0 where
  pub left : List (Attestation Signature)
  pub hands_out : HandsOut old new subject waiting is.stamp left
  pub about : subject_in is.step.kind is.step.proposal ≡ Some subject
  pub listed : is.step.listed ≡ length left
  pub written : FillsRoom raw_in left was.list is.list

-- What is left is handed out, or nothing is.
pub record AsksLeft (old new : RequestsView Signature Sha256Digest) (code : ℕ)
    (subject : Subject Sha256Digest) (waiting : List (Attestation Signature)) (was is : Output)
    : Type 0 where
  pub codes : is_one_of (VERIFY ∷ IDLE ∷ OUT_OF_MEMORY ∷ []) code ≡ true
  pub handed : code ≡ VERIFY → HandsThemOut old new subject waiting was is
  pub none : code ≡ IDLE → IsLeftAt (request_at old (request_key subject)) subject waiting []
  pub needed : code ≡ OUT_OF_MEMORY → MayBeRefused old subject waiting
  pub stays : code ≢ VERIFY → (new ≡ old) × (is ≡ was)

-- Calls of a validator, and what is answered to them.
module _ (before : JudgedValidatorView) (code : ℕ) (after : JudgedValidatorView) where
  -- What is left of what an attempt looks at is handed out.
  pub record AsksOfIt (LooksAt : Subject Sha256Digest → List (Attestation Signature) → Type 0)
      (was is : Output) : Type 0 where
    pub subject : Subject Sha256Digest
    pub waiting : List (Attestation Signature)
    pub looks_at : LooksAt subject waiting
    pub asks : AsksLeft before.requests after.requests code subject waiting was is
    pub validator : after.validator ≡ before.validator

  -- The same of the next construction,
  abbrev pub AsksOfNext : Output → Output → Type 0
  AsksOfNext = AsksOfIt (LooksAtNow before.validator)

  -- and of a kind of a view, if it is ready.
  abbrev pub AsksOf : ℕ → Kind → Output → Output → Type 0
  AsksOf view kind was is =
      AsksOfIt (LooksAtOf before.validator view kind) was is
      ⊎ ((code ≡ IDLE) × ((after ≡ before) × (is ≡ was)))

  -- Of some kind of some view something is handed out, or memory is refused for it.
  pub record AsksEarly (was is : Output) : Type 0 where
    pub codes : is_one_of (VERIFY ∷ IDLE ∷ OUT_OF_MEMORY ∷ []) code ≡ true
    pub asks : code ≢ IDLE → (view : ℕ) × ((kind : Kind)
        × AsksOfIt (LooksAtOf before.validator view kind) was is)
    pub stays : code ≡ IDLE → (after ≡ before) × (is ≡ was)

  -- By verdicts that are there a construction is made, if it is the next one.
  pub record ConcludesAt (kind : Kind) (view : ℕ) : Type 0 where
    pub subject : Subject Sha256Digest
    pub list : List (Attestation Signature)
    pub verdicts : List Bool
    pub there : AreThere before.requests (request_key_in kind view) subject list verdicts
    pub concluded : IsConcluded before.validator code after.validator subject list
    pub requests : after.requests ≡ before.requests

  abbrev pub ConcludesJudged : Kind → ℕ → Type 0
  ConcludesJudged kind view =
      ConcludesAt kind view
      ⊎ ((code ≡ STALE) × ((after ≡ before) × ((subject : Subject Sha256Digest)
      (list : List (Attestation Signature)) (verdicts : List Bool)
      → AreThere before.requests (request_key_in kind view) subject list verdicts → ⊥)))

  -- where there is no room for as many attestations as there are participants
  pub record IsTooShort (was is : Output) : Type 0 where
    pub code_is : code ≡ SHORT
    pub short : length was.list < validator_participants before.validator
    pub same : after ≡ before
    pub stays : is ≡ was

  -- A verdict on each that the next construction looks at is there, and it is made.
  pub record ConcludesNext (was is : Output) : Type 0 where
    pub kind : Kind
    pub view : ℕ
    pub judged : IsJudgedAt before kind view
    pub concludes : ConcludesAt kind view
    pub stays : is ≡ was

  -- The next construction looks at nothing that isn't verified, and it is made.
  pub record ConcludesVerified (was is : Output) : Type 0 where
    pub subject : Subject Sha256Digest
    pub looks_at : LooksAtNow before.validator subject []
    pub concluded : IsConcluded before.validator code after.validator subject []
    pub requests : after.requests ≡ before.requests
    pub stays : is ≡ was

  -- All that the next construction looks at is handed out, and so is something else, if anything.
  pub record AsksAhead (was is : Output) : Type 0 where
    pub subject : Subject Sha256Digest
    pub waiting : List (Attestation Signature)
    pub looks_at : LooksAtNow before.validator subject waiting
    pub asked : IsLeftAt (request_at before.requests (request_key subject)) subject waiting []
    pub early : AsksEarly was is

  -- No kind is ready, and its view rests.
  pub record RestsNext (was is : Output) : Type 0 where
    pub none : LendsNone before.validator
    pub rests : RestsWithout before.validator code after.validator
    pub requests : after.requests ≡ before.requests
    pub stays : is ≡ was

  -- What is handed out to be verified, with room for all.
  abbrev pub LendsWithin : Output → Output → Type 0
  LendsWithin was is =
      ConcludesVerified was is
      ⊎ (HasUnverified before.validator × (ConcludesNext was is
      ⊎ (IsNotJudged before × (((code ≢ IDLE) × AsksOfNext was is)
      ⊎ (AsksAhead was is ⊎ RestsNext was is)))))

  abbrev pub LendsNext : Output → Output → Type 0
  LendsNext was is =
      IsTooShort was is
      ⊎ ((validator_participants before.validator ≤ length was.list) × LendsWithin was is)

  -- Verdicts on what was handed out last of a kind of a view, by this stamp.
  pub record TakesVerdictsOf (view : ℕ) (kind : Kind) (stamp : ℕ) (verdicts : List Bool)
      : Type 0 where
    pub codes : is_one_of (DONE ∷ IDLE ∷ STALE ∷ OUT_OF_MEMORY ∷ []) code ≡ true
    pub stale : code ≡ STALE
        → IsStamped (request_at before.requests (request_key_in kind view)) stamp verdicts → ⊥
    pub stays : code ≡ STALE → after ≡ before
    pub taken : code ≢ STALE
        → JudgesStamped before.requests after.requests (request_key_in kind view) stamp verdicts
    pub concluded : code ≢ STALE → (subject : Subject Sha256Digest)
        × ((list : List (Attestation Signature)) × ((all : List Bool)
        × (AreThere after.requests (request_key_in kind view) subject list all
        × IsConcluded before.validator code after.validator subject list)))

  abbrev pub TakesVerdicts : ℕ → ℕ → ℕ → List Bool → Type 0
  TakesVerdicts view kind stamp verdicts =
      MatchOption (kind_in kind) ((code ≡ MALFORMED) × (after ≡ before))
      (λ typed. TakesVerdictsOf view typed stamp verdicts)
