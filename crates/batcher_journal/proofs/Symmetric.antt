-- Whether two subjects contradict each other doesn't depend on their order, and none contradicts itself.
use Rattle.batcher_journal.proofs.Words.{◌≡◌, ◌&&◌, ◌∙◌, ℕ, Bool, true, false, not, ap, eqb, inl, inr, refl, sym, IsEquivalence, cases_eq, ne_eqb}
use Rattle.batcher_journal.proofs.Words.{subjects_contradict, same_proposal, same_round, same_subject, Proposal, Subject, Notarize, Nullify, Finalize, Round}
use Rattle.std.proofs.Common.{eq-eqb}

eqb_symmetric : (a b : ℕ) → eqb a b ≡ eqb b a
eqb_symmetric a b =
    elim (cases_eq a b) [
      | inl same ↦ eq-eqb a b same ∙ sym (eq-eqb b a (sym same))
      | inr other ↦ ne_eqb a b other ∙ sym (ne_eqb b a (λ e. other (sym e)))
    ]

same_itself : (n : ℕ) → eqb n n ≡ true
same_itself n = eq-eqb n n refl

rounds_symmetric : (r s : Round) → same_round r s ≡ same_round s r
rounds_symmetric r s =
    rw (eqb_symmetric r.epoch.0 s.epoch.0, eqb_symmetric r.view.0 s.view.0) refl

never : (b : Bool) → (b && false) ≡ false
never true = refl
never false = refl

module _ {D : Type 0} (same : D → D → Bool) (laws : IsEquivalence same) where
  proposals_symmetric : (p q : Proposal D) → same_proposal same p q ≡ same_proposal same q p
  proposals_symmetric p q =
      rw (rounds_symmetric p.round q.round, eqb_symmetric p.parent.0 q.parent.0) (rw (laws.symm p.payload q.payload) refl)

  pub subjects_symmetric : (s t : Subject D) → same_subject same s t ≡ same_subject same t s
  subjects_symmetric (Notarize p) (Notarize q) = proposals_symmetric p q
  subjects_symmetric (Notarize p) (Nullify s) = refl
  subjects_symmetric (Notarize p) (Finalize q) = refl
  subjects_symmetric (Nullify r) (Notarize q) = refl
  subjects_symmetric (Nullify r) (Nullify s) = rounds_symmetric r s
  subjects_symmetric (Nullify r) (Finalize q) = refl
  subjects_symmetric (Finalize p) (Notarize q) = refl
  subjects_symmetric (Finalize p) (Nullify s) = refl
  subjects_symmetric (Finalize p) (Finalize q) = proposals_symmetric p q

  both_symmetric : (p q : Proposal D) → (same_round p.round q.round && not (same_proposal same p q))
      ≡ (same_round q.round p.round && not (same_proposal same q p))
  both_symmetric p q =
      ap (λ (b : Bool). b && not (same_proposal same p q)) (rounds_symmetric p.round q.round)
      ∙ ap (λ (b : Bool). same_round q.round p.round && not b) (proposals_symmetric p q)

  pub contradict_symmetric : (s t : Subject D)
      → subjects_contradict same s t ≡ subjects_contradict same t s
  contradict_symmetric (Notarize p) (Notarize q) = both_symmetric p q
  contradict_symmetric (Notarize p) (Nullify s) = refl
  contradict_symmetric (Notarize p) (Finalize q) = refl
  contradict_symmetric (Nullify r) (Notarize q) = refl
  contradict_symmetric (Nullify r) (Nullify s) = refl
  contradict_symmetric (Nullify r) (Finalize q) = rounds_symmetric r q.round
  contradict_symmetric (Finalize p) (Notarize q) = refl
  contradict_symmetric (Finalize p) (Nullify s) = rounds_symmetric p.round s
  contradict_symmetric (Finalize p) (Finalize q) = both_symmetric p q

  proposals_same : (p : Proposal D) → same_proposal same p p ≡ true
  proposals_same p =
      rw (same_itself p.round.epoch.0, same_itself p.round.view.0, same_itself p.parent.0) (laws.refl p.payload)

  no_two : (p : Proposal D) → (same_round p.round p.round && not (same_proposal same p p)) ≡ false
  no_two p = ap (λ (b : Bool). same_round p.round p.round && not b) (proposals_same p)
      ∙ never (same_round p.round p.round)

  pub contradicts_not_itself : (s : Subject D) → subjects_contradict same s s ≡ false
  contradicts_not_itself (Notarize p) = no_two p
  contradicts_not_itself (Nullify r) = refl
  contradicts_not_itself (Finalize p) = no_two p
