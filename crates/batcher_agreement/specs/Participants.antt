-- The participants of a scheme, and what may be assumed of them.
use Rattle.std.specs.Prelude.{◌≡◌, ◌<◌, ◌≤◌, ℕ, Bool, true, false, List, length}
use Rattle.batcher.specs.Quorum.{quorum_of}
use Rattle.batcher.specs.Meaning.{Meaning}
use Rattle.batcher.specs.Votes.{subject_certified, content_of}
use Rattle.batcher.specs.Verifiers.{certifies_itself}
use Rattle.batcher.specs.messages.Attestation.{Attestation}
use Rattle.batcher.specs.messages.Subject.{Subject}
use Rattle.batcher.specs.messages.Certificate.{Certificate}
use Rattle.batcher_evidence.specs.SignedQuorums.{has_signed}
use Rattle.batcher_evidence.specs.Rounds.{count_below}
use Rattle.batcher_agreement.specs.Policy.{Conduct, HasVoted, Knows}

module _ {D K G C : Type 0} (m : Meaning D K G C) (is_faulty : ℕ → Bool) where
  pub record IsHonest (i : ℕ) : Type 0 where
    pub takes_part : i < length m.participants
    pub honest : is_faulty i ≡ false

  -- A quorum voted for what the certificate certifies, and those of them who are honest did so
  -- themselves: nobody else made their votes.
  pub record IsBackedBy (conduct : ℕ → Conduct D) (c : Certificate C D) : Type 0 where
    pub voted : ℕ → Bool
    pub enough : quorum_of (length m.participants) ≤ count_below (length m.participants) voted
    pub unforged :
        (i : ℕ) → IsHonest i → voted i ≡ true → HasVoted (conduct i) (subject_certified c)

  -- What a participant knows to be certified: it holds a certificate for it that certifies.
  pub record HoldsFor (holds : Certificate C D → Type 0) (s : Subject D) : Type 0 where
    pub certificate : Certificate C D
    pub is_of : subject_certified certificate ≡ s
    pub held : holds certificate
    pub certifies : certifies_itself m certificate ≡ true

  -- What is assumed of signatures: each certificate that an honest participant holds, and that
  -- certifies, is backed.
  abbrev pub AreBacked : (ℕ → Certificate C D → Type 0) → (ℕ → Conduct D) → Type 0
  AreBacked holds conduct =
      (i : ℕ) → IsHonest i → (c : Certificate C D) → holds i c → certifies_itself m c ≡ true
      → IsBackedBy conduct c

  -- The same of a scheme whose certificates show attestations. Where one shows an attestation of an
  -- honest participant which attests, that one has voted so.
  abbrev pub AreUnforged :
      (C → List (Attestation G)) → (ℕ → Certificate C D → Type 0) → (ℕ → Conduct D) → Type 0
  AreUnforged shown holds conduct =
      (i : ℕ) → IsHonest i → (c : Certificate C D) → holds i c
      → (j : ℕ) → IsHonest j
      → has_signed m (subject_certified c) (shown (content_of c)) j ≡ true
      → HasVoted (conduct j) (subject_certified c)

  -- an honest participant has a certificate of this
  pub record IsHeldByHonest (conduct : ℕ → Conduct D) (s : Subject D) : Type 0 where
    pub holder : ℕ
    pub honest : IsHonest holder
    pub knows : Knows (conduct holder) s
