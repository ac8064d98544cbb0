-- The votes that the disk of a validator shows, and what is known of a validator that goes on by a
-- disk of which each of them is verified.
use Rattle.std.specs.Prelude.{◌≡◌, ◌≢◌, ◌<◌, ◌≤◌, ◌++◌, ◌⊎◌, ℕ, Bool, true, false, List, [], ◌∷◌}
use Rattle.std.specs.Prelude.{Option, Some, None, IfSome, IsSomeAnd, length, map, option_and_then}
use Rattle.std.specs.Prelude.{slice_get}
use Rattle.std.specs.List.{list_all}
use Rattle.std.specs.Option.{option_map}
use Rattle.batcher_types.specs.Votes.{attestation_of, content_of, subject_certified, subject_of}
use Rattle.batcher_types.specs.declared.messages.Attestation.{Attestation}
use Rattle.batcher_types.specs.declared.messages.Certificate.{Certificate}
use Rattle.batcher_types.specs.declared.messages.Sha256Digest.{Sha256Digest}
use Rattle.batcher_types.specs.declared.messages.Subject.{Subject}
use Rattle.batcher_types.specs.declared.messages.Vote.{Vote}
use Rattle.batcher_bytes.specs.Encodings.{ProofView}
use Rattle.batcher_bytes.specs.declared.signature.Keys.{Keys}
use Rattle.batcher_bytes.specs.declared.signature.Signature.{Signature}
use Rattle.batcher_ffi.specs.Certificates.{certifies_by, listing_in}
use Rattle.batcher_ffi.specs.Flat.{raw_vote_in}
use Rattle.batcher_ffi.specs.Judging.{IsUnasked, JudgedValidatorView}
use Rattle.batcher_ffi.specs.Validators.{CValidator, IsMade, WhyNotMade, earlier_in, kept_in}
use Rattle.batcher_ffi.specs.Validators.{validator_keys, validator_participants}
use Rattle.batcher_ffi.specs.Rounds.{is_one_of}
use Rattle.batcher_ffi.specs.Truths.{is_attested}
use Rattle.batcher_ffi.specs.declared.codes.TheConstants.{DONE, NOT_VERIFIED, OUT_OF_MEMORY, SHORT}
use Rattle.batcher_ffi.specs.declared.flat.FlatVote.{FlatVote}
use Rattle.batcher_ffi.specs.declared.starting.ValidatorOptions.{ValidatorOptions}

-- an attestation with what it is of: what a vote says, and each item of a certificate's list
abbrev pub Claim : Type 0
Claim = Subject Sha256Digest × Attestation Signature

abbrev pub claim_of : Vote Signature Sha256Digest → Claim
claim_of vote = (subject_of vote, attestation_of vote)

abbrev pub claims_on : Subject Sha256Digest → List (Attestation Signature) → List Claim
claims_on subject all = map (λ a. (subject, a)) all

-- whether it attests, by the keys of the participants
abbrev pub is_true_claim : Keys → Claim → Bool
is_true_claim keys claim = is_attested keys claim.0 claim.1

-- These claims, and behind them those that certificates among n participants list. None where one
-- of them doesn't list a quorum.
abbrev pub listed_behind : ℕ → List Claim → List (Certificate ProofView Sha256Digest)
    → Option (List Claim)
listed_behind n claims [] = Some claims
listed_behind n claims (c ∷ others) =
    option_and_then (λ all. listed_behind n (claims ++ claims_on (subject_certified c) all) others)
    (listing_in n (content_of c).bytes)

-- What a disk shows by which a validator is made: its own votes, and what its certificates list.
abbrev pub shown_by : CValidator → Option (List Claim)
shown_by l = listed_behind (validator_participants l) (map claim_of (earlier_in l)) (kept_in l)

abbrev pub are_good : List Bool → Bool
are_good verdicts = list_all (λ b. b) verdicts

-- Verdicts on what a disk shows, which are all yes just where each attests.
abbrev pub AreVerifiedAt : ValidatorOptions → List ℕ → List ℕ → List Bool → Type 0
AreVerifiedAt options namespace disk verdicts =
    (l : CValidator) → IsMade options namespace disk l → IfSome (shown_by l) (λ claims.
    length verdicts ≡ length claims
    → are_good verdicts ≡ list_all (is_true_claim (validator_keys l)) claims)

-- There is a verdict on each, and it is yes.
abbrev pub AreAllGood : CValidator → List Bool → Type 0
AreAllGood l verdicts =
    IsSomeAnd (shown_by l) (λ claims.
    (length verdicts ≡ length claims) × (are_good verdicts ≡ true))

-- One has no verdict, or none that is yes, or a certificate doesn't list a quorum.
abbrev pub IsUnverified : CValidator → List Bool → Type 0
IsUnverified l verdicts =
    IfSome (shown_by l) (λ claims.
    (length verdicts ≢ length claims) ⊎ (are_good verdicts ≡ false))

-- Each of its own votes attests, and each certificate that it keeps is a list of a quorum, of which
-- each attests.
pub record HoldsVerified (l : CValidator) : Type 0 where
  pub votes :
      list_all (λ vote. is_true_claim (validator_keys l) (claim_of vote)) (earlier_in l) ≡ true
  pub certificates : list_all (λ c. certifies_by (validator_keys l) (validator_participants l)
      (subject_certified c) (content_of c).bytes) (kept_in l) ≡ true

module _ (options : ValidatorOptions) (namespace disk : List ℕ) where
  -- why a disk makes no validator, or is not verified
  abbrev pub WhyNoneIsMade : List Bool → ℕ → Type 0
  WhyNoneIsMade verdicts code =
      WhyNotMade options namespace disk code
      ⊎ ((code ≡ NOT_VERIFIED) × ((l : CValidator) × (IsMade options namespace disk l
      × IsUnverified l verdicts)))

  -- What a call that makes a validator does to a handle: where it fails, the handle stays as it
  -- was.
  pub record MakesValidator (old new : Option JudgedValidatorView) (code : ℕ)
      (verdicts : List Bool) : Type 0 where
    pub done : code ≡ DONE → IsSomeAnd new (λ j. IsMade options namespace disk j.validator)
    pub verified : code ≡ DONE → IsSomeAnd new (λ j. HoldsVerified j.validator)
    pub unasked : code ≡ DONE → IsSomeAnd new IsUnasked
    pub refused : code ≢ DONE → WhyNoneIsMade verdicts code
    pub stays : code ≢ DONE → new ≡ old

-- the claim of a vote that is written to C
abbrev pub claim_in : FlatVote → Option Claim
claim_in flat = option_map claim_of (raw_vote_in flat)

-- The room has as many of the claims as votes, in their order, as it has places, and is else as it
-- was.
pub record FillsVotes (claims : List Claim) (room list : List FlatVote) : Type 0 where
  pub places : length list ≡ length room
  pub written : (i : ℕ) → i < length claims → i < length room
      → option_and_then claim_in (slice_get list i) ≡ slice_get claims i
  pub rest : (i : ℕ) → length claims ≤ i → slice_get list i ≡ slice_get room i

-- They are listed where there is room for all, and counted.
pub record ListsVotes (shown : Option (List Claim)) (code : ℕ) (room list : List FlatVote)
    (old count : ℕ) : Type 0 where
  pub codes : is_one_of (DONE ∷ SHORT ∷ NOT_VERIFIED ∷ OUT_OF_MEMORY ∷ []) code ≡ true
  pub listed : code ≡ DONE → IsSomeAnd shown (λ claims. (length claims ≤ length room)
      × FillsVotes claims room list)
  pub short : code ≡ SHORT → IsSomeAnd shown (λ claims. length room < length claims)
  pub counted : (code ≡ DONE) ⊎ (code ≡ SHORT) → IsSomeAnd shown (λ claims.
      count ≡ length claims)
  pub unlisted : code ≡ NOT_VERIFIED → shown ≡ None
  pub list_stays : code ≢ DONE → list ≡ room
  pub count_stays : (code ≡ NOT_VERIFIED) ⊎ (code ≡ OUT_OF_MEMORY) → count ≡ old

-- What the disk of a validator shows is listed, or no validator is made by it, and the code says
-- why.
abbrev pub ListsDisk : ValidatorOptions → List ℕ → List ℕ → ℕ → List FlatVote → List FlatVote → ℕ
    → ℕ
    → Type 0
ListsDisk options namespace disk code room list old count =
    ((l : CValidator) × (IsMade options namespace disk l
    × ListsVotes (shown_by l) code room list old count))
    ⊎ (WhyNotMade options namespace disk code × ((list ≡ room) × (count ≡ old)))
