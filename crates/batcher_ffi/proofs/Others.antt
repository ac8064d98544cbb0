-- Whose journal is on a disk that isn't the validator's, and what else its bytes are.
use Rattle.batcher_ffi.proofs.Words.{◌≡◌, ℕ, Bool, List, arith, refl, Cause, IsAnothers, OwnerFields, OpenFault, NotBegun, OtherVersion, OtherLengths}
use Rattle.batcher_ffi.proofs.Words.{OtherParticipant, OtherKeys, OtherNamespace, NoMemoryToOpen, NoJournal, Contradiction, Format, Vote, DiskFault, NotOpened}
use Rattle.batcher_ffi.proofs.Words.{NotStarted, NoMemoryToStart, NoMemoryForVoter, start_code, OTHER_OWNER, OTHER_VERSION, DAMAGED, owner_format, Err, Version}
use Rattle.batcher_ffi.proofs.Words.{inl, inr, signature_format, same_digest, sha256_format, vote_format, StartFault, Forged, Malformed, NotFinal, AreDamaged}
use Rattle.batcher_ffi.proofs.Words.{HasNoVoter}

module _ {G D : Type 0} (format : Format (Vote G D)) (same : D → D → Bool) (disk : List ℕ)
    (owner : OwnerFields) where
  abbrev Because : DiskFault → Type 0
  Because fault = (one : OpenFault) → fault ≡ NotOpened one → Cause format disk owner same one

  pub is_anothers :
      (fault : DiskFault) → start_code fault ≡ OTHER_OWNER → Because fault
      → (one : OpenFault) × IsAnothers disk owner one
  is_anothers (NotOpened OtherLengths) e cause = (OtherLengths, cause OtherLengths refl)
  is_anothers (NotOpened OtherParticipant) e cause = (OtherParticipant, cause OtherParticipant refl)
  is_anothers (NotOpened OtherKeys) e cause = (OtherKeys, cause OtherKeys refl)
  is_anothers (NotOpened OtherNamespace) e cause = (OtherNamespace, cause OtherNamespace refl)
  is_anothers (NotOpened NoMemoryToOpen) e cause = absurd (omega (arith, e))
  is_anothers (NotOpened NotBegun) e cause = absurd (omega (arith, e))
  is_anothers (NotOpened OtherVersion) e cause = absurd (omega (arith, e))
  is_anothers (NotOpened NoJournal) e cause = absurd (omega (arith, e))
  is_anothers (NotOpened Contradiction) e cause = absurd (omega (arith, e))
  is_anothers (NotStarted NoMemoryForVoter) e cause = absurd (omega (arith, e))
  is_anothers (NotStarted fault) e cause = absurd (omega (arith, e))
  is_anothers NoMemoryToStart e cause = absurd (omega (arith, e))

  pub is_other_version :
      (fault : DiskFault) → start_code fault ≡ OTHER_VERSION → Because fault
      → owner_format.decoding disk ≡ Err Version
  is_other_version (NotOpened OtherVersion) e cause = cause OtherVersion refl
  is_other_version (NotOpened OtherLengths) e cause = absurd (omega (arith, e))
  is_other_version (NotOpened OtherParticipant) e cause = absurd (omega (arith, e))
  is_other_version (NotOpened OtherKeys) e cause = absurd (omega (arith, e))
  is_other_version (NotOpened OtherNamespace) e cause = absurd (omega (arith, e))
  is_other_version (NotOpened NoMemoryToOpen) e cause = absurd (omega (arith, e))
  is_other_version (NotOpened NotBegun) e cause = absurd (omega (arith, e))
  is_other_version (NotOpened NoJournal) e cause = absurd (omega (arith, e))
  is_other_version (NotOpened Contradiction) e cause = absurd (omega (arith, e))
  is_other_version (NotStarted NoMemoryForVoter) e cause = absurd (omega (arith, e))
  is_other_version (NotStarted fault) e cause = absurd (omega (arith, e))
  is_other_version NoMemoryToStart e cause = absurd (omega (arith, e))

-- What is on a disk that is damaged.
module _ (disk : List ℕ) (owner : OwnerFields) where
  abbrev Opening : DiskFault → Type 0
  Opening fault =
      (one : OpenFault) → fault ≡ NotOpened one
      → Cause (vote_format signature_format sha256_format) disk owner same_digest one

  abbrev Starting : DiskFault → Type 0
  Starting fault = (one : StartFault) → fault ≡ NotStarted one → HasNoVoter owner disk one

  no_memory : (e : NotFinal ≡ NoMemoryForVoter) → ⊥
  no_memory e = cc

  unread : (e : Malformed ≡ NoMemoryForVoter) → ⊥
  unread e = cc

  forged : (e : Forged ≡ NoMemoryForVoter) → ⊥
  forged e = cc

  pub are_damaged :
      (fault : DiskFault) → start_code fault ≡ DAMAGED → Opening fault → Starting fault
      → AreDamaged owner disk
  are_damaged (NotOpened NoJournal) e opening starting = inl (opening NoJournal refl)
  are_damaged (NotOpened Contradiction) e opening starting =
      inr (inl (opening Contradiction refl))
  are_damaged (NotStarted NotFinal) e opening starting =
      inr (inr (NotFinal, (no_memory, starting NotFinal refl)))
  are_damaged (NotStarted Malformed) e opening starting =
      inr (inr (Malformed, (unread, starting Malformed refl)))
  are_damaged (NotStarted Forged) e opening starting =
      inr (inr (Forged, (forged, starting Forged refl)))
  are_damaged (NotStarted NoMemoryForVoter) e opening starting = absurd (omega (arith, e))
  are_damaged (NotOpened OtherVersion) e opening starting = absurd (omega (arith, e))
  are_damaged (NotOpened OtherLengths) e opening starting = absurd (omega (arith, e))
  are_damaged (NotOpened OtherParticipant) e opening starting = absurd (omega (arith, e))
  are_damaged (NotOpened OtherKeys) e opening starting = absurd (omega (arith, e))
  are_damaged (NotOpened OtherNamespace) e opening starting = absurd (omega (arith, e))
  are_damaged (NotOpened NoMemoryToOpen) e opening starting = absurd (omega (arith, e))
  are_damaged (NotOpened NotBegun) e opening starting = absurd (omega (arith, e))
  are_damaged NoMemoryToStart e opening starting = absurd (omega (arith, e))
