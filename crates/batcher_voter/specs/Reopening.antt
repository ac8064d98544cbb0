-- What a voter knows that was made from its journal.
use Rattle.std.specs.Prelude.{◌≡◌, ◌≢◌, ◌⊎◌, ℕ, is_some, true}
use Rattle.batcher.specs.Votes.{round_in, subject_certified}
use Rattle.batcher.specs.messages.Certificate.{Certificate}
use Rattle.batcher.specs.messages.Subject.{Subject}
use Rattle.batcher.specs.messages.Subject.TheVariants.{Notarize, Nullify, Finalize}
use Rattle.batcher.specs.positions.Epoch.{Epoch}
use Rattle.batcher_bytes.specs.Format.{Format}
use Rattle.batcher_bytes.specs.Messages.{versioned}
use Rattle.batcher_journal.specs.Records.{Certified}
use Rattle.batcher_voter.specs.Knowledge.{KnowledgeView, learned_at}

module _ {D : Type 0} where
  abbrev pub IsNotarizedView : KnowledgeView D → ℕ → Type 0
  IsNotarizedView knowledge view = is_some (learned_at knowledge view).notarized ≡ true

  abbrev pub IsNullifiedView : KnowledgeView D → ℕ → Type 0
  IsNullifiedView knowledge view = (learned_at knowledge view).nullified ≡ true

  -- a proposal of the view is known to be final
  abbrev pub IsFinalView : KnowledgeView D → ℕ → Type 0
  IsFinalView knowledge view = is_some (learned_at knowledge view).finalized ≡ true

  -- a certificate of the subject's kind is known in its view
  abbrev pub IsKindKnown : KnowledgeView D → Subject D → Type 0
  IsKindKnown knowledge (Notarize p) = IsNotarizedView knowledge p.round.view.0
  IsKindKnown knowledge (Nullify number) = IsNullifiedView knowledge number.view.0
  IsKindKnown knowledge (Finalize p) = IsFinalView knowledge p.round.view.0

  -- Nothing that is known is forgotten.
  pub record StaysKnown (old new : KnowledgeView D) : Type 0 where
    pub notarized : (view : ℕ) → IsNotarizedView old view → IsNotarizedView new view
    pub nullified : (view : ℕ) → IsNullifiedView old view → IsNullifiedView new view
    pub finalized : (view : ℕ) → IsFinalView old view → IsFinalView new view

module _ {C D : Type 0} (format : Format (Certificate C D)) (epoch : Epoch)
    (knowledge : KnowledgeView D) where
  -- What is on the disk as a certificate is one of its round, and is known.
  pub record IsOfKnown (kept : Certified) : Type 0 where
    pub certificate : Certificate C D
    pub encoded : kept.1 ≡ (versioned format).encoding certificate
    pub of_round : round_in (subject_certified certificate) ≡ kept.0
    pub known : IsKindKnown knowledge (subject_certified certificate)

  -- One of another epoch is passed over.
  abbrev pub IsTakenIn : Certified → Type 0
  IsTakenIn kept = (kept.0.epoch ≢ epoch) ⊎ IsOfKnown kept
