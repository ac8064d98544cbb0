-- What may be voted for isn't refused, unless it is contested.
use Rattle.batcher_validator.proofs.Words.{◌≡◌, ◌&&◌, ◌++◌, ◌∙◌, ℕ, Bool, true, false, not, ap, arith, inl, inr, refl, subst, sym, subjects_contradict}
use Rattle.batcher_validator.proofs.Words.{same_proposal, same_round, subject_of, Proposal, Subject, Notarize, Nullify, Finalize, Round, Conduct, HasVoted}
use Rattle.batcher_validator.proofs.Words.{IsCleared, KeepsPolicy, voted_final_is_notarized, same_round-true, IsContested, IsAnotherNotarized, IsRefused}
use Rattle.batcher_validator.proofs.Words.{RestsOnLearned, Rule, Contradicts, Nullified, NotNotarized, ParentBeforeFinal, ParentNotEarlier, ParentUnknown}
use Rattle.batcher_validator.proofs.Words.{ViewNotNullified, knows_before}

wrong : false ≡ true → ⊥
wrong e = absurd cc

both : (a b : Bool) → (a && b) ≡ true → (a ≡ true) × (b ≡ true)
both true true e = (refl, refl)
both true false e = absurd (wrong e)
both false b e = absurd (wrong e)

module _ {D : Type 0} (same : D → D → Bool) (itself : (p : Proposal D) → same_proposal same p p ≡ true)
    (all : Conduct D) (keeps : KeepsPolicy all) where
  -- one proposal isn't another one
  differ : (p q : Proposal D) → not (same_proposal same q p) ≡ true → q ≡ p → ⊥
  differ p q other equal =
      wrong (sym (ap not (subst (λ r. same_proposal same r p ≡ true) (sym equal) (itself p))) ∙ other)

  notarize_free :
      (p : Proposal D) (t : Subject D) → HasVoted all t
      → subjects_contradict same t (Notarize p) ≡ true → IsCleared all (Notarize p) → ⊥
  notarize_free p (Notarize q) voted e cleared =
      let it = both (same_round q.round p.round) (not (same_proposal same q p)) e in
      differ p q it.1 (cleared.no_other q (same_round-true q.round p.round it.0) voted)
  notarize_free p (Nullify r) voted e cleared = wrong e
  notarize_free p (Finalize q) voted e cleared = wrong e

  nullify_free :
      (r : Round) (t : Subject D) → HasVoted all t
      → subjects_contradict same t (Nullify r) ≡ true → IsCleared all (Nullify r) → ⊥
  nullify_free r (Notarize q) voted e cleared = wrong e
  nullify_free r (Nullify q) voted e cleared = wrong e
  nullify_free r (Finalize q) voted e cleared = cleared q (same_round-true q.round r e) voted

  finalize_free :
      (p : Proposal D) (t : Subject D) → HasVoted all t
      → subjects_contradict same t (Finalize p) ≡ true → IsCleared all (Finalize p)
      → IsAnotherNotarized all p
  finalize_free p (Notarize q) voted e cleared = absurd (wrong e)
  finalize_free p (Nullify r) voted e cleared =
      absurd (cleared.not_nullified
      (subst (λ n. HasVoted all (Nullify n)) (same_round-true r p.round e) voted))
  finalize_free p (Finalize q) voted e cleared =
      let it = both (same_round q.round p.round) (not (same_proposal same q p)) e in
      record {
        other = q;
        of_round = same_round-true q.round p.round it.0;
        differs = λ equal. differ p q it.1 equal;
        known = voted_final_is_notarized all q keeps voted;
      }

module _ {G D : Type 0} (same : D → D → Bool) (itself : (p : Proposal D) → same_proposal same p p ≡ true)
    (past earlier : Conduct D) (keeps : KeepsPolicy (past ++ earlier)) (final : ℕ) where
  ground :
      (p : Proposal D) (rule : Rule G D)
      → IsRefused same (past ++ earlier) past final rule (Notarize p)
      → IsCleared (past ++ earlier) (Notarize p) → RestsOnLearned past final (Notarize p) → ⊥
  ground p (Contradicts vote) why cleared rests =
      notarize_free same itself (past ++ earlier) keeps p (subject_of vote) why.0 why.1 cleared
  ground p Nullified why cleared rests = cleared.not_nullified why
  ground p NotNotarized why cleared rests = why
  ground p ParentNotEarlier why cleared rests = absurd (omega (arith, why, rests.1.earlier))
  ground p ParentBeforeFinal why cleared rests = absurd (omega (arith, why, rests.0))
  ground p ParentUnknown why cleared rests = elim (rests.1.parent) [
    | inl start ↦ why.0 start
    | inr known ↦ why.1 known
  ]
  ground p (ViewNotNullified view) why cleared rests =
      why.1.1 (rests.1.between view.0 why.0 why.1.0)

  pub refused_is_contested :
      (s : Subject D) (rule : Rule G D) → IsRefused same (past ++ earlier) past final rule s
      → IsCleared (past ++ earlier) s → RestsOnLearned past final s
      → IsContested (past ++ earlier) s
  refused_is_contested (Notarize p) rule why cleared rests = ground p rule why cleared rests
  refused_is_contested (Nullify r) (Contradicts vote) why cleared rests =
      nullify_free same itself (past ++ earlier) keeps r (subject_of vote) why.0 why.1 cleared
  refused_is_contested (Finalize p) (Contradicts vote) why cleared rests =
      finalize_free same itself (past ++ earlier) keeps p (subject_of vote) why.0 why.1 cleared
  refused_is_contested (Finalize p) NotNotarized why cleared rests = elim why [
    | inl unknown ↦ absurd (unknown rests)
    | inr another ↦ record {
      other = another.other;
      of_round = another.of_round;
      differs = another.differs;
      known = knows_before past earlier (Notarize another.other) another.known;
    }
  ]
  refused_is_contested (Nullify r) rule why cleared rests = why
  refused_is_contested (Finalize p) rule why cleared rests = absurd why
