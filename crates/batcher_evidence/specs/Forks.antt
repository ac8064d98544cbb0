-- Forks over views: a chain that passes a final view without its proposal.
use Rattle.std.specs.Prelude.{◌≡◌, ◌≢◌, ◌<◌, ◌≤◌, ◌&&◌, ◌⊎◌, ⊤, ℕ, Bool, true, List, [], ◌∷◌}
use Rattle.std.specs.Prelude.{Contains}
use Rattle.std.specs.List.{AllByRecursion}
use Rattle.batcher.specs.Meaning.{Meaning}
use Rattle.batcher.specs.Votes.{subject_certified}
use Rattle.batcher.specs.Verifiers.{certifies_itself}
use Rattle.batcher.specs.positions.Round.{Round}
use Rattle.batcher.specs.messages.Attestation.{Attestation}
use Rattle.batcher.specs.messages.Certificate.{Certificate}
use Rattle.batcher.specs.messages.Proposal.{Proposal}
use Rattle.batcher.specs.messages.Subject.{Subject}
use Rattle.batcher.specs.messages.Subject.TheVariants.{Notarize, Nullify, Finalize}
use Rattle.batcher_evidence.specs.declared.certificates.Culprit.{Culprit}
use Rattle.batcher_evidence.specs.Culprits.{AreCulprits, certificates_contradict}

-- whether two certificates contradict each other, and both certify
abbrev pub certify_and_contradict :
    {D K G C : Type 0} → Meaning D K G C → (D → D → Bool) → Certificate C D → Certificate C D
    → Bool
certify_and_contradict m same a b =
    certifies_itself m a && (certifies_itself m b && certificates_contradict same a b)

module _ {D : Type 0} where
  -- A chain from its top down: the view of each proposal's parent is that of the next one.
  abbrev pub AreLinked : List (Proposal D) → Type 0
  AreLinked [] = ⊤
  AreLinked (p ∷ []) = ⊤
  AreLinked (p ∷ q ∷ below) =
      (q.round.epoch ≡ p.round.epoch) × ((q.round.view ≡ p.parent) × AreLinked (q ∷ below))

  abbrev pub EndsBelow : ℕ → List (Proposal D) → Type 0
  EndsBelow view [] = ⊥
  EndsBelow view (p ∷ []) = p.parent.0 < view
  EndsBelow view (p ∷ q ∷ below) = EndsBelow view (q ∷ below)

  -- its top is in this view of the epoch or above it
  abbrev pub BeginsAbove : Round → List (Proposal D) → Type 0
  BeginsAbove number [] = ⊥
  BeginsAbove number (p ∷ below) =
      (p.round.epoch ≡ number.epoch) × (number.view.0 ≤ p.round.view.0)

module _ {D K G C : Type 0} (m : Meaning D K G C) (certificates : List (Certificate C D)) where
  -- one of the certificates is for this, and certifies
  pub record IsShown (s : Subject D) : Type 0 where
    pub certificate : Certificate C D
    pub held : Contains certificates certificate
    pub is_of : subject_certified certificate ≡ s
    pub certifies : certifies_itself m certificate ≡ true

  -- A proposal is shown with what it rests on: that it is notarized or final, and that each view
  -- between its parent and itself is nullified.
  pub record IsShownWithGround (p : Proposal D) : Type 0 where
    pub certified : IsShown (Notarize p) ⊎ IsShown (Finalize p)
    pub between :
        (number : Round) → number.epoch ≡ p.round.epoch → p.parent.0 < number.view.0
        → number.view.0 < p.round.view.0 → IsShown (Nullify number)

  -- A proposal is final, and a chain, shown in full, passes its view without it.
  pub record IsFork (final : Proposal D) (chain : List (Proposal D)) : Type 0 where
    pub finalized : IsShown (Finalize final)
    pub notarized : IsShown (Notarize final)
    pub grounded : AllByRecursion IsShownWithGround chain
    pub linked : AreLinked chain
    pub begins_above : BeginsAbove final.round chain
    pub ends_below : EndsBelow final.round.view.0 chain
    pub without : AllByRecursion (λ p. p ≢ final) chain

  -- Two of the certificates contradict each other, and both certify.
  pub record IsContradiction (same : D → D → Bool) (a b : Certificate C D) : Type 0 where
    pub first : Contains certificates a
    pub second : Contains certificates b
    pub contradict : certify_and_contradict m same a b ≡ true

  -- These participants signed both of two subjects of which the certificates are.
  pub record AreShownCulprits (shown : C → List (Attestation G)) (same : D → D → Bool)
      (s t : Subject D) (found : List (Culprit G)) : Type 0 where
    pub first : Certificate C D
    pub second : Certificate C D
    pub first_is_of : subject_certified first ≡ s
    pub second_is_of : subject_certified second ≡ t
    pub contradiction : IsContradiction same first second
    pub culprits : AreCulprits m shown first second found
