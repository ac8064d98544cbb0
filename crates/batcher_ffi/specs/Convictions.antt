-- Whom two votes convict, by flat values.
use Rattle.std.specs.Prelude.{◌≡◌, ◌≢◌, ◌↔◌, ℕ, Bool, true, false, List, [], ◌∷◌, length, None}
use Rattle.std.specs.Prelude.{IfSome}
use Rattle.batcher_types.specs.Keys.{participant}
use Rattle.batcher_types.specs.Votes.{attestation_of}
use Rattle.batcher_types.specs.declared.messages.Sha256Digest.{Sha256Digest}
use Rattle.batcher_types.specs.declared.messages.Vote.{Vote}
use Rattle.batcher_types.specs.declared.scheme.keyed.Name.{Name}
use Rattle.batcher_bytes.specs.Keys.{same_digest}
use Rattle.batcher_bytes.specs.declared.signature.Keys.{Keys}
use Rattle.batcher_bytes.specs.declared.signature.Signature.{Signature}
use Rattle.batcher_evidence.specs.Convictions.{convicts}
use Rattle.batcher_verdicts.specs.Judging.{meaning_by}
use Rattle.batcher_ffi.specs.contracts.caller.CallerTruth.TheImpl.{ghosts}
use Rattle.batcher_ffi.specs.declared.codes.TheConstants.{DONE, IDLE, MALFORMED}
use Rattle.batcher_ffi.specs.declared.flat.FlatVote.{FlatVote}
use Rattle.batcher_ffi.specs.Flat.{vote_of_flat, with_both}
use Rattle.batcher_ffi.specs.Rounds.{is_one_of}

-- Whether two votes are of one signer, contradict each other and both attest is this, by each
-- scheme over so many participants with the keys.
abbrev pub Convict : ℕ → Keys → Vote Signature Sha256Digest → Vote Signature Sha256Digest → Bool
    → Type 0
Convict participants keys a b answer =
    (names : List Name) (batchable : Bool) → length names ≡ participants
    → convicts (meaning_by ghosts batchable names keys) same_digest a b ≡ answer

-- Whether two votes convict their signer.
pub record AsksConvicted (code participants : ℕ) (keys : Keys) (first second : FlatVote)
    (old out : ℕ) : Type 0 where
  pub codes : is_one_of (DONE ∷ IDLE ∷ MALFORMED ∷ []) code ≡ true
  pub malformed : (code ≡ MALFORMED)
      ↔ (with_both (λ a b. a) (vote_of_flat first) (vote_of_flat second) ≡ None)
  pub done : code ≡ DONE → IfSome (vote_of_flat first) (λ a. IfSome (vote_of_flat second) (λ b.
      Convict participants keys a b true × ((attestation_of a).signer ≡ participant out)))
  pub nobody : code ≡ IDLE → IfSome (vote_of_flat first) (λ a. IfSome (vote_of_flat second) (λ b.
      Convict participants keys a b false))
  pub stays : code ≢ DONE → out ≡ old
