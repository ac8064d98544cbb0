-- What is written into the room that a caller hands in.
use Rattle.std.specs.Prelude.{◌≡◌, ◌+◌, ◌++◌, ◌<◌, ◌≤◌, ◌⊎◌, ℕ, List, length, slice_get, Some}
use Rattle.std.specs.Prelude.{IfSome, drop, is_some, take}
use Rattle.std.specs.Option.{option_map}
use Rattle.batcher_types.specs.declared.messages.Sha256Digest.{Sha256Digest}
use Rattle.batcher_types.specs.declared.messages.Certificate.{Certificate}
use Rattle.batcher_types.specs.Keys.{participant}
use Rattle.batcher_types.specs.Votes.{subject_certified, content_of}
use Rattle.batcher_votes.specs.declared.verifier.Batch.{Batch}
use Rattle.batcher_bytes.specs.Listings.{Passed}
use Rattle.batcher_bytes.specs.declared.certificates.Content.{Content}
use Rattle.batcher_bytes.specs.declared.certificates.Content.TheVariants.{Made as MadeHere}
use Rattle.batcher_bytes.specs.declared.certificates.Content.TheVariants.{Received}
use Rattle.batcher_ffi.specs.contracts.caller.CallerTruth.TheImpl.{ghosts}
use Rattle.batcher_ffi.specs.declared.caller.Caller.{Caller}
use Rattle.batcher_ffi.specs.declared.codes.TheConstants.{DONE, SHORT}
use Rattle.batcher_ffi.specs.declared.flat.FlatAttestation.{FlatAttestation}
use Rattle.batcher_ffi.specs.declared.flat.FlatStep.{FlatStep}
use Rattle.batcher_ffi.specs.Flat.{raw_in, subject_in}

-- The room has as many of the values, in their order, as it has places, and is else as it was.
pub record FillsRoom {A B : Type 0} (meaning : A → B) (values : List B) (room new : List A)
    : Type 0 where
  pub places : length new ≡ length room
  pub written : (i : ℕ) → i < length values → i < length room
      → option_map meaning (slice_get new i) ≡ slice_get values i
  pub rest : (i : ℕ) → length values ≤ i → slice_get new i ≡ slice_get room i

-- Bytes are written where they fit, and how many they are.
pub record WritesAll (bytes room list : List ℕ) (count code : ℕ) : Type 0 where
  pub codes : (code ≡ DONE) ⊎ (code ≡ SHORT)
  pub counted : count ≡ length bytes
  pub short : code ≡ SHORT → length room < length bytes
  pub fits : code ≡ DONE → length bytes ≤ length room
  pub written : code ≡ DONE → FillsRoom (λ b. b) bytes room list
  pub stays : code ≡ SHORT → list ≡ room

-- Bytes come at a place of a room, which is as it was behind them.
pub record Puts (bytes room : List ℕ) (at : ℕ) (new : List ℕ) (end : ℕ) : Type 0 where
  pub places : length new ≡ length room
  pub ends : end ≡ at + length bytes
  pub written : take end new ≡ take at room ++ bytes
  pub rest : drop end new ≡ drop end room

-- the certificates that rounds of a caller make
abbrev pub Made : Type 0
Made = Certificate (Content Caller) Sha256Digest

module _ (step : FlatStep) (room list : List FlatAttestation) where
  -- the attestations that it is made of: a quorum of different participants, that attest each or
  -- pass as a whole
  abbrev pub WritesContent : Content Caller → Type 0
  WritesContent (MadeHere listing) =
      (step.listed ≡ length listing.attestations)
      × (FillsRoom raw_in listing.attestations room list × Passed ghosts listing)
  WritesContent (Received certificate) = step.listed ≡ 0

  -- what the certificate is of, and its attestations
  pub record WritesCertificate (certificate : Made) : Type 0 where
    pub subject : subject_in step.kind step.proposal ≡ Some (subject_certified certificate)
    pub content : WritesContent (content_of certificate)

  pub record WritesBatch (signers_room signers : List ℕ) (batch : Batch Made) : Type 0 where
    pub processed : step.processed ≡ batch.processed
    pub fallback : step.fallback ≡ batch.fallback
    pub invalid : step.invalid ≡ length batch.invalid
    pub named : FillsRoom participant batch.invalid signers_room signers
    pub certified : step.certified ≡ is_some batch.certificate
    pub certificate : IfSome batch.certificate WritesCertificate
