-- A fork over views shows two certificates that contradict each other.
use Rattle.batcher_evidence.proofs.Words.{◌≡◌, ◌≢◌, ◌≤◌, ◌<◌, ◌&&◌, ◌⊎◌, ℕ, Bool, true, not, List, [], ◌∷◌, ap, subst, sym, ◌∙◌, arith, inl, inr, ⊎_elim}
use Rattle.batcher_evidence.proofs.Words.{AllByRecursion, cases_Bool, cases_lt, and_from, same_proposal-true, same_round-refl, Meaning, certifies_itself}
use Rattle.batcher_evidence.proofs.Words.{same_proposal, same_round, subject_certified, subjects_contradict, Round, Certificate, Proposal, Subject, Notarize}
use Rattle.batcher_evidence.proofs.Words.{Nullify, Finalize, certificates_contradict, AreLinked, EndsBelow, IsContradiction, IsFork, IsShown, IsShownWithGround}

pub round_of : (a b : Round) → a.epoch ≡ b.epoch → a.view.0 ≡ b.view.0 → a ≡ b
round_of a b epoch view =
    let made : ℕ → ℕ → Round = λ e v. record { epoch = record { 0 = e }; view = record { 0 = v } } in
    ap (λ e. made e a.view.0) (ap (λ x. x.0) epoch) ∙ ap (λ v. made b.epoch.0 v) view

module _ {D K G C : Type 0} (m : Meaning D K G C) (certificates : List (Certificate C D)) where
  -- another proposal of the round is notarized or final
  record IsAnother (final : Proposal D) : Type 0 where
    pub proposal : Proposal D
    pub of_round : proposal.round ≡ final.round
    pub other : proposal ≢ final
    pub certified :
        IsShown m certificates (Notarize proposal) ⊎ IsShown m certificates (Finalize proposal)

  abbrev Meets : Proposal D → Type 0
  Meets final = IsAnother final ⊎ IsShown m certificates (Nullify final.round)

  -- What is shown where a proposal is in the view or above it, and its parent below.
  meets_here :
      (final p : Proposal D) → IsShownWithGround m certificates p → p ≢ final
      → p.round.epoch ≡ final.round.epoch → final.round.view.0 ≤ p.round.view.0
      → p.parent.0 < final.round.view.0 → Meets final
  meets_here final p shown other epoch above below =
      ⊎_elim
      (λ less. inr (shown.between final.round (sym epoch) below less))
      (λ most.
      let equal : p.round.view.0 ≡ final.round.view.0 = omega (arith, above, most) in
      inl (record {
        proposal = p;
        of_round = round_of p.round final.round epoch equal;
        other = other;
        certified = shown.certified;
      }))
      (cases_lt final.round.view.0 p.round.view.0)

  meets :
      (final p : Proposal D) (below : List (Proposal D))
      → AllByRecursion (IsShownWithGround m certificates) (p ∷ below) → AreLinked (p ∷ below)
      → AllByRecursion (λ q. q ≢ final) (p ∷ below) → p.round.epoch ≡ final.round.epoch
      → final.round.view.0 ≤ p.round.view.0 → EndsBelow final.round.view.0 (p ∷ below)
      → Meets final
  meets final p [] shown linked other epoch above ends = meets_here final p shown.0 other.0 epoch above ends
  meets final p (next ∷ below) shown linked other epoch above ends =
      ⊎_elim
      (λ less. meets_here final p shown.0 other.0 epoch above less)
      (λ most.
      let up : final.round.view.0 ≤ next.round.view.0 =
      subst (λ it. final.round.view.0 ≤ it) (sym (ap (λ it. it.0) linked.1.0)) most in
      meets final next below shown.1 linked.1.1 other.1 (linked.0 ∙ epoch) up ends)
      (cases_lt p.parent.0 final.round.view.0)

  module _ (same : D → D → Bool) (identical : (x y : D) → same x y ≡ true → x ≡ y) where
    -- two certificates that are shown for subjects which contradict each other
    contradiction :
        (s t : Subject D) → (a : IsShown m certificates s) → (b : IsShown m certificates t)
        → subjects_contradict same s t ≡ true
        → IsContradiction m certificates same a.certificate b.certificate
    contradiction s t a b contradict =
        let of_first : subjects_contradict same (subject_certified a.certificate) t ≡ true =
        subst (λ it. subjects_contradict same it t ≡ true) (sym a.is_of) contradict in
        let of_both : certificates_contradict same a.certificate b.certificate ≡ true =
        subst (λ it. subjects_contradict same (subject_certified a.certificate) it ≡ true) (sym b.is_of) of_first in
        record {
          first = a.held;
          second = b.held;
          contradict =
              and_from (certifies_itself m a.certificate)
              (certifies_itself m b.certificate && certificates_contradict same a.certificate b.certificate) a.certifies
              (and_from (certifies_itself m b.certificate) _ b.certifies of_both);
        }

    of_round :
        (p q : Proposal D) → q.round ≡ p.round → q ≢ p
        → (same_round p.round q.round && not (same_proposal same p q)) ≡ true
    of_round p q equal other =
        let round : same_round p.round q.round ≡ true =
        subst (λ it. same_round p.round it ≡ true) (sym equal) (same_round-refl p.round) in
        let differs : not (same_proposal same p q) ≡ true =
        ⊎_elim
        (λ is. absurd (other (sym (same_proposal-true same identical p q is))))
        (λ is. ap not is)
        (cases_Bool (same_proposal same p q)) in
        and_from (same_round p.round q.round) _ round differs

    pub fork_contradicts :
        (final : Proposal D) (chain : List (Proposal D)) → IsFork m certificates final chain
        → ((a b : Certificate C D) → IsContradiction m certificates same a b → ⊥) → ⊥
    fork_contradicts final [] fork none = fork.begins_above
    fork_contradicts final (top ∷ below) fork none =
        ⊎_elim
        (λ another.
        let q = another.proposal in
        let differ = of_round final q another.of_round another.other in
        ⊎_elim
        (λ shown. none _ _ (contradiction (Notarize final) (Notarize q) fork.notarized shown differ))
        (λ shown. none _ _ (contradiction (Finalize final) (Finalize q) fork.finalized shown differ))
        another.certified)
        (λ shown. none _ _ (contradiction (Finalize final) (Nullify final.round) fork.finalized shown (same_round-refl final.round)))
        (meets final top below fork.grounded fork.linked fork.without fork.begins_above.0 fork.begins_above.1
        fork.ends_below)
