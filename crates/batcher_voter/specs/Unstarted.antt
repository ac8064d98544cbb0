-- Why a voter isn't made from its journal.
use Rattle.std.specs.Prelude.{◌≡◌, ◌≢◌, ◌⊎◌, ◌++◌, ⊤, ℕ, Bool, false, true, List, [], ◌∷◌, Contains}
use Rattle.std.specs.Prelude.{Ok}
use Rattle.batcher.specs.Votes.{kind_certified, round_in, subject_certified}
use Rattle.batcher.specs.messages.Certificate.{Certificate}
use Rattle.batcher.specs.messages.Kind.{Kind}
use Rattle.batcher.specs.messages.Kind.TheVariants.{Finalization}
use Rattle.batcher.specs.messages.Vote.{Vote}
use Rattle.batcher.specs.positions.Round.{Round}
use Rattle.batcher_bytes.specs.Format.{Format, whole}
use Rattle.batcher_bytes.specs.Messages.{versioned}
use Rattle.batcher_journal.specs.Ready.{JournalView}
use Rattle.batcher_journal.specs.Records.{Certified}
use Rattle.batcher_journal.specs.Text.{Contents, IsText}
use Rattle.batcher_voter.specs.declared.answers.StartFault.{StartFault}
use Rattle.batcher_voter.specs.declared.answers.StartFault.TheVariants.{Forged, Malformed, NotFinal}
use Rattle.batcher_voter.specs.declared.answers.StartFault.TheVariants.{OutOfMemory}

-- what a journal has, also what its next write puts there
abbrev pub all_in : {G D L : Type 0} → JournalView G D L → Contents G D
all_in journal = record {
  owner = journal.contents.owner;
  floor = journal.contents.floor;
  finalization = journal.contents.finalization;
  votes = journal.contents.votes;
  certificates = journal.contents.certificates ++ journal.unwritten;
}

module _ {C D : Type 0} (format : Format (Certificate C D)) where
  -- Bytes that were kept with a round are those of a certificate, and it is of the round.
  pub record IsReadAs (kept : Certified) (c : Certificate C D) : Type 0 where
    pub decoded : whole (versioned format) kept.1 ≡ Ok c
    pub of_round : round_in (subject_certified c) ≡ kept.0

  -- they are those of none
  abbrev pub IsNoCertificate : Certified → Type 0
  IsNoCertificate kept = (c : Certificate C D) → IsReadAs kept c → ⊥

  -- they are those of one of the round, and it certifies
  abbrev pub IsVouched : (Certificate C D → Bool) → Certified → Type 0
  IsVouched certifies kept = (c : Certificate C D) × (IsReadAs kept c × (certifies c ≡ true))

  -- and it is of this kind
  pub record IsCertifiedAs (certifies : Certificate C D → Bool) (kind : Kind) (kept : Certified)
      : Type 0
    where
      pub certificate : Certificate C D
      pub read : IsReadAs kept certificate
      pub is_kind : kind_certified certificate ≡ kind
      pub certifies_it : certifies certificate ≡ true

  -- why bytes aren't read as a certificate of a round
  abbrev pub WhyUnread : Certified → StartFault → Type 0
  WhyUnread kept OutOfMemory = ⊤
  WhyUnread kept Malformed = IsNoCertificate kept
  WhyUnread kept fault = ⊥

  -- why bytes aren't those of a certificate of a round that certifies
  abbrev pub WhyUncertified : (Certificate C D → Bool) → Certified → StartFault → Type 0
  WhyUncertified certifies kept OutOfMemory = ⊤
  WhyUncertified certifies kept Malformed = IsNoCertificate kept
  WhyUncertified certifies kept Forged =
      (c : Certificate C D) × (IsReadAs kept c × (certifies c ≡ false))
  WhyUncertified certifies kept NotFinal = ⊥

  module _ {G : Type 0} (contents : Contents G D) where
    -- The floor has bytes, which aren't those of a finalization of its round.
    pub record HasNoFinalization : Type 0 where
      pub some : contents.finalization ≢ []
      pub none :
          (c : Certificate C D) → IsReadAs (contents.floor, contents.finalization) c
          → kind_certified c ≡ Finalization → ⊥

    -- What is kept beside votes isn't always a certificate of its round.
    pub record HasUnread : Type 0 where
      pub kept : Certified
      pub there : Contains contents.certificates kept
      pub unread : IsNoCertificate kept

    -- A certificate doesn't certify what it names.
    pub record HasForged (certifies : Certificate C D → Bool) : Type 0 where
      pub kept : Certified
      pub there : Contains ((contents.floor, contents.finalization) ∷ contents.certificates) kept
      pub certificate : Certificate C D
      pub read : IsReadAs kept certificate
      pub forged : certifies certificate ≡ false

    -- The floor's bytes are those of a finalization of its round, which certifies.
    pub record HasFinalization (certifies : Certificate C D → Bool) : Type 0 where
      pub certificate : Certificate C D
      pub read : IsReadAs (contents.floor, contents.finalization) certificate
      pub final : kind_certified certificate ≡ Finalization
      pub certifies_it : certifies certificate ≡ true

    -- So it is, unless the floor is the start of an epoch and has none, and what is kept beside
    -- votes are certificates of their rounds, which certify.
    pub record AreReadable (certifies : Certificate C D → Bool) : Type 0 where
      pub floor :
          ((contents.finalization ≡ []) × (contents.floor.view.0 ≡ 0)) ⊎ HasFinalization certifies
      pub beside :
          (kept : Certified) → Contains contents.certificates kept → IsVouched certifies kept

    -- Else memory is out.
    abbrev pub WhyNotStarted : (Certificate C D → Bool) → StartFault → Type 0
    WhyNotStarted certifies OutOfMemory = ⊤
    WhyNotStarted certifies NotFinal =
        (contents.finalization ≡ []) × (contents.floor.view.0 ≢ 0)
    WhyNotStarted certifies Malformed = HasNoFinalization ⊎ HasUnread
    WhyNotStarted certifies Forged = HasForged certifies

  -- Of an open journal all that it has is readable, and so is what its next write leaves.
  abbrev pub KeepsReadable : {G L : Type 0} → (Certificate C D → Bool) → JournalView G D L
      → Type 0
  KeepsReadable certifies journal =
      journal.is_open ≡ true → AreReadable (all_in journal) certifies

  -- What a crash leaves is readable.
  abbrev pub LeavesReadable : {G : Type 0} → Format (Vote G D) → (Certificate C D → Bool)
      → List ℕ → Type 0
  LeavesReadable {G} votes certifies left =
      (contents : Contents G D) → IsText votes left contents → AreReadable contents certifies

-- why a certificate that was read isn't learned
abbrev pub WhyNotLearned : {C D : Type 0} → (Certificate C D → Bool) → Round → Certificate C D
    → StartFault → Type 0
WhyNotLearned certifies round c OutOfMemory = ⊤
WhyNotLearned certifies round c Malformed = round_in (subject_certified c) ≢ round
WhyNotLearned certifies round c Forged =
    (round_in (subject_certified c) ≡ round) × (certifies c ≡ false)
WhyNotLearned certifies round c NotFinal = ⊥
