-- What a voter keeps for its disk of what it knows to be certified.
use Rattle.std.specs.Prelude.{◌≡◌, ◌≤◌, ◌⊎◌, ◌++◌, ℕ, true, List, [], ◌∷◌, Contains, Option, Some}
use Rattle.std.specs.Prelude.{None, is_some}
use Rattle.batcher.specs.Votes.{round_in, subject_certified}
use Rattle.batcher.specs.messages.Certificate.{Certificate}
use Rattle.batcher.specs.messages.Proposal.{Proposal}
use Rattle.batcher.specs.messages.Subject.{Subject}
use Rattle.batcher.specs.messages.Subject.TheVariants.{Notarize, Nullify, Finalize}
use Rattle.batcher.specs.positions.Round.{Round}
use Rattle.batcher_bytes.specs.Format.{Format}
use Rattle.batcher_bytes.specs.Messages.{versioned}
use Rattle.batcher_journal.specs.Ready.{JournalView}
use Rattle.batcher_journal.specs.Records.{Certified}
use Rattle.batcher_journal.specs.Text.{Contents}
use Rattle.batcher_voter.specs.Knowledge.{KnowledgeView, learned_at}
use Rattle.batcher_voter.specs.Voting.{VoterView}
use Rattle.batcher_voter.specs.declared.knowledge.Learned.{Learned}

module _ {D : Type 0} where
  -- A certificate of the first does for the second: of finalizations of one round each does.
  abbrev pub DoesFor : Subject D → Subject D → Type 0
  DoesFor t (Notarize p) = t ≡ Notarize p
  DoesFor t (Nullify number) = t ≡ Nullify number
  DoesFor t (Finalize p) = (q : Proposal D) × ((t ≡ Finalize q) × (q.round ≡ p.round))

  -- What is learned of a view has this. Of what is final it has one.
  abbrev pub HasOf : Learned D → Subject D → Type 0
  HasOf known (Notarize p) = known.notarized ≡ Some p
  HasOf known (Nullify number) = known.nullified ≡ true
  HasOf known (Finalize p) = is_some known.finalized ≡ true

  -- it is known, or of what is final, one of its view is
  abbrev pub IsKnownAlready : KnowledgeView D → Subject D → Type 0
  IsKnownAlready knowledge s = HasOf (learned_at knowledge (round_in s).view.0) s

  -- and it is of the epoch, and isn't before the floor
  pub record IsKnownHere (knowledge : KnowledgeView D) (s : Subject D) : Type 0 where
    pub of_epoch : (round_in s).epoch ≡ knowledge.epoch
    pub from_floor : knowledge.floor ≤ (round_in s).view.0
    pub known : IsKnownAlready knowledge s

  -- it does for what waits for memory
  pub record WaitsFor (waits : Option (Subject D)) (s : Subject D) : Type 0 where
    pub subject : Subject D
    pub waiting : waits ≡ Some subject
    pub does : DoesFor subject s

module _ {G D : Type 0} where
  -- The certificates of a journal among which one of the subject may be. Of a finalization, one is
  -- its floor's.
  abbrev pub certificates_in : Contents G D → Subject D → List Certified
  certificates_in contents (Finalize p) =
      (contents.floor, contents.finalization) ∷ contents.certificates
  certificates_in contents (Notarize p) = contents.certificates
  certificates_in contents (Nullify number) = contents.certificates

module _ {G D L : Type 0} where
  -- those, and what the next write puts there
  abbrev pub kept_for : JournalView G D L → Subject D → List Certified
  kept_for journal s = certificates_in journal.contents s ++ journal.unwritten

module _ {C D : Type 0} (format : Format (Certificate C D)) where
  -- A journal has a certificate, with its round: as the finalization of its floor, or beside votes.
  abbrev pub HasOnDisk : {G : Type 0} → Contents G D → Certificate C D → Type 0
  HasOnDisk contents c =
      Contains (certificates_in contents (subject_certified c))
      (round_in (subject_certified c), (versioned format).encoding c)

  -- The bytes are those of a finalization of the round.
  pub record IsFinalOf (round : Round) (bytes : List ℕ) : Type 0 where
    pub certificate : Certificate C D
    pub proposal : Proposal D
    pub final : subject_certified certificate ≡ Finalize proposal
    pub of_round : proposal.round ≡ round
    pub encoded : bytes ≡ (versioned format).encoding certificate

  -- Among these is the round of the subject with the bytes of a certificate that does for it.
  pub record IsKeptAmong (kept : List Certified) (s : Subject D) : Type 0 where
    pub certificate : Certificate C D
    pub does : DoesFor (subject_certified certificate) s
    pub there : Contains kept (round_in s, (versioned format).encoding certificate)

module _ {C G D L : Type 0} (format : Format (Certificate C D)) (journal : JournalView G D L) where
  -- it is kept for the disk, or waits
  abbrev pub IsKeptOrWaits : Option (Subject D) → Subject D → Type 0
  IsKeptOrWaits waits s = IsKeptAmong format (kept_for journal s) s ⊎ WaitsFor waits s

  -- so each is for which one of the subject does
  abbrev pub IsSafelyKept : Option (Subject D) → Subject D → Type 0
  IsSafelyKept waits s =
      journal.is_open ≡ true → (t : Subject D) → DoesFor s t → round_in t ≡ round_in s
      → IsKeptOrWaits waits t

  -- Of an open journal, each that is known.
  abbrev pub KeepsWhatIsKnown : KnowledgeView D → Option (Subject D) → Type 0
  KeepsWhatIsKnown knowledge waits =
      journal.is_open ≡ true → (s : Subject D) → IsKnownHere knowledge s → IsKeptOrWaits waits s

-- With its last write all that is known is on the disk, and nothing waits.
pub record HasWrittenAll {S G D L : Type 0} (voter : VoterView S G D L) : Type 0 where
  pub nothing_waits : voter.waits ≡ None
  pub all_written : voter.journal.unwritten ≡ []
