-- Who may lack the payload of what is notarized.
use Rattle.std.specs.Prelude.{◌≡◌, ◌≢◌, ◌⊎◌, ◌==◌, ℕ, List, [], ◌∷◌, Option, Some, None, true, not}
use Rattle.std.specs.Prelude.{Contains, filter, length}
use Rattle.std.specs.List.{list_any}
use Rattle.std.specs.Option.{option_map}
use Rattle.batcher.specs.RoundContracts.{ForEachHistory}
use Rattle.batcher.specs.RoundState.{RoundView}
use Rattle.batcher_histories.specs.Answers.{missing_after}
use Rattle.batcher_types.specs.Keys.{participant}
use Rattle.batcher_types.specs.declared.messages.Attestation.{Attestation}
use Rattle.batcher_types.specs.declared.messages.Certificate.TheVariants.{Notarization as NotarizationCertificate}
use Rattle.batcher_types.specs.declared.messages.Kind.TheVariants.{Notarization as Notarizes}
use Rattle.batcher_types.specs.declared.messages.Notarization.{Notarization}
use Rattle.batcher_types.specs.declared.messages.Sha256Digest.{Sha256Digest}
use Rattle.batcher_types.specs.declared.positions.Participant.{Participant}
use Rattle.batcher_bytes.specs.Encodings.{ProofView}
use Rattle.batcher_bytes.specs.declared.signature.Signature.{Signature}
use Rattle.batcher_bytes.specs.declared.signed.Signed.{Signed}
use Rattle.batcher_node.specs.Nodes.{slot_at}
use Rattle.batcher_validator.specs.Queues.{HasKey}
use Rattle.batcher_validator.specs.Shelves.{kind_and_round}
use Rattle.batcher_ffi.specs.Certificates.{listing_in}
use Rattle.batcher_ffi.specs.Flat.{round_of_flat}
use Rattle.batcher_ffi.specs.Validators.{CValidator, kept_in, validator_participants}
use Rattle.batcher_ffi.specs.Validators.{validator_round_config}
use Rattle.batcher_ffi.specs.Output.{FillsRoom}
use Rattle.batcher_ffi.specs.Rounds.{is_one_of}
use Rattle.batcher_ffi.specs.declared.caller.Caller.{Caller}
use Rattle.batcher_ffi.specs.declared.codes.TheConstants.{DONE, IDLE, OUT_OF_MEMORY}
use Rattle.batcher_ffi.specs.declared.flat.FlatProposal.{FlatProposal}

abbrev pub Notarized : Type 0
Notarized = Notarization ProofView Sha256Digest

abbrev pub OwnRound : Type 0
OwnRound = RoundView (Signed Caller 1) Signature Sha256Digest

-- the participants that signed none of these attestations
abbrev pub others_than : List (Attestation Signature) → List Participant → List Participant
others_than listed all =
    filter (λ q. not (list_any (λ a. a.signer.0 == q.0) listed)) all

-- Those lack the payload of what is notarized whom neither a vote shows to have it, as the history
-- of its round says, nor the notarization.
pub record Lacks (round : OwnRound) (made : Notarized) (n : ℕ) (lacking : List Participant)
    : Type 0 where
  pub listed : List (Attestation Signature)
  pub listing_is : listing_in n made.certificate.bytes ≡ Some listed
  pub missing : List Participant
  pub missing_is : ForEachHistory validator_round_config round (λ x past.
      missing ≡ missing_after x past made.proposal)
  pub lacking_is : lacking ≡ others_than listed missing

module _ (l : CValidator) where
  abbrev pub round_at : ℕ → Option OwnRound
  round_at view = option_map (λ slot. slot.round) (slot_at l.voter.node.rounds view)

  -- They are listed and counted. Where the notarization lists no quorum, or its view is over, none
  -- are.
  pub record ListsLacking (made : Notarized) (code : ℕ) (room list : List ℕ) (old count : ℕ)
      : Type 0 where
    pub codes : is_one_of (DONE ∷ IDLE ∷ OUT_OF_MEMORY ∷ []) code ≡ true
    pub done : code ≡ DONE → (its : OwnRound) × ((round_at made.proposal.round.view.0 ≡ Some its)
        × ((lacking : List Participant) × (Lacks its made (validator_participants l) lacking
        × ((count ≡ length lacking) × FillsRoom participant lacking room list))))
    pub none : code ≡ IDLE → (round_at made.proposal.round.view.0 ≡ None)
        ⊎ (listing_in (validator_participants l) made.certificate.bytes ≡ None)
    pub stays : code ≢ DONE → (list ≡ room) × (count ≡ old)

  -- Of what is notarized in the round of a proposal, if anything is.
  abbrev pub AsksLacking : ℕ → FlatProposal → List ℕ → List ℕ → ℕ → ℕ → Type 0
  AsksLacking code flat room list old count =
      ((made : Notarized) × (Contains (kept_in l) (NotarizationCertificate made)
      × ((made.proposal.round ≡ round_of_flat flat)
      × ListsLacking made code room list old count)))
      ⊎ ((HasKey kind_and_round (kept_in l) (Notarizes, round_of_flat flat) → ⊥)
      × ((code ≡ IDLE) × ((list ≡ room) × (count ≡ old))))
