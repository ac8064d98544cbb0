-- What was learned of a round is what is known to be certified of it.
use Rattle.batcher_voter.proofs.Words.{◌≡◌, ◌∙◌, Bool, true, false, [], ◌∷◌, Some, inl, inr, ◌⊎◌, ap, cond, refl, sym, is_some, same_Some, round_in, same_round}
use Rattle.batcher_voter.proofs.Words.{same_round-refl, same_round-true, Proposal, Subject, Notarize, Nullify, Finalize, Round, Conduct, Knows, learned, voted}
use Rattle.batcher_voter.proofs.Words.{learned_of, with_learned, Learned}

module _ {D : Type 0} where
  -- what a certificate of this round tells, where it is of the kind
  first_notarized :
      (s : Subject D) (number : Round) (before : Learned D) (p : Proposal D) (same : Bool)
      → same_round (round_in s) number ≡ same
      → (cond same (with_learned s before) before).notarized ≡ Some p
      → ((p.round ≡ number) × (s ≡ Notarize p)) ⊎ (before.notarized ≡ Some p)
  first_notarized (Notarize q) number before p true e h =
      inl (ap (λ (x : Proposal D). x.round) (sym (same_Some q p h)) ∙ same_round-true q.round number e, ap Notarize (same_Some q p h))
  first_notarized (Nullify r) number before p true e h = inr h
  first_notarized (Finalize q) number before p true e h = inr h
  first_notarized s number before p false e h = inr h

  first_finalized :
      (s : Subject D) (number : Round) (before : Learned D) (p : Proposal D) (same : Bool)
      → same_round (round_in s) number ≡ same
      → (cond same (with_learned s before) before).finalized ≡ Some p
      → ((p.round ≡ number) × (s ≡ Finalize p)) ⊎ (before.finalized ≡ Some p)
  first_finalized (Finalize q) number before p true e h =
      inl (ap (λ (x : Proposal D). x.round) (sym (same_Some q p h)) ∙ same_round-true q.round number e, ap Finalize (same_Some q p h))
  first_finalized (Nullify r) number before p true e h = inr h
  first_finalized (Notarize q) number before p true e h = inr h
  first_finalized s number before p false e h = inr h

  first_nullified :
      (s : Subject D) (number : Round) (before : Learned D) (same : Bool)
      → same_round (round_in s) number ≡ same
      → (cond same (with_learned s before) before).nullified ≡ true
      → (s ≡ Nullify number) ⊎ (before.nullified ≡ true)
  first_nullified (Nullify r) number before true e h = inl (ap Nullify (same_round-true r number e))
  first_nullified (Notarize q) number before true e h = inr h
  first_nullified (Finalize q) number before true e h = inr h
  first_nullified s number before false e h = inr h

  pub notarized_is_known :
      (past : Conduct D) (number : Round) (p : Proposal D)
      → (learned_of past number).notarized ≡ Some p
      → (p.round ≡ number) × Knows past (Notarize p)
  notarized_is_known [] number p h = absurd cc
  notarized_is_known (voted s ∷ past) number p h = notarized_is_known past number p h
  notarized_is_known (learned s ∷ past) number p h =
      elim (first_notarized s number (learned_of past number) p (same_round (round_in s) number) refl h) [
        | inl it ↦ (it.0, inl it.1)
        | inr before ↦
            let it = notarized_is_known past number p before in
            (it.0, inr it.1)
      ]

  pub finalized_is_known :
      (past : Conduct D) (number : Round) (p : Proposal D)
      → (learned_of past number).finalized ≡ Some p
      → (p.round ≡ number) × Knows past (Finalize p)
  finalized_is_known [] number p h = absurd cc
  finalized_is_known (voted s ∷ past) number p h = finalized_is_known past number p h
  finalized_is_known (learned s ∷ past) number p h =
      elim (first_finalized s number (learned_of past number) p (same_round (round_in s) number) refl h) [
        | inl it ↦ (it.0, inl it.1)
        | inr before ↦
            let it = finalized_is_known past number p before in
            (it.0, inr it.1)
      ]

  pub nullified_is_known :
      (past : Conduct D) (number : Round) → (learned_of past number).nullified ≡ true
      → Knows past (Nullify number)
  nullified_is_known [] number h = absurd cc
  nullified_is_known (voted s ∷ past) number h = nullified_is_known past number h
  nullified_is_known (learned s ∷ past) number h =
      elim (first_nullified s number (learned_of past number) (same_round (round_in s) number) refl h) [
        | inl it ↦ inl it
        | inr before ↦ inr (nullified_is_known past number before)
      ]

  -- nothing that was learned is forgotten
  keeps_notarized :
      (s : Subject D) (before : Learned D) (same : Bool) → is_some before.notarized ≡ true
      → is_some (cond same (with_learned s before) before).notarized ≡ true
  keeps_notarized (Notarize q) before true h = refl
  keeps_notarized (Nullify r) before true h = h
  keeps_notarized (Finalize q) before true h = h
  keeps_notarized s before false h = h

  keeps_finalized :
      (s : Subject D) (before : Learned D) (same : Bool) → is_some before.finalized ≡ true
      → is_some (cond same (with_learned s before) before).finalized ≡ true
  keeps_finalized (Finalize q) before true h = refl
  keeps_finalized (Nullify r) before true h = h
  keeps_finalized (Notarize q) before true h = h
  keeps_finalized s before false h = h

  keeps_nullified :
      (s : Subject D) (before : Learned D) (same : Bool) → before.nullified ≡ true
      → (cond same (with_learned s before) before).nullified ≡ true
  keeps_nullified (Nullify r) before true h = refl
  keeps_nullified (Notarize q) before true h = h
  keeps_nullified (Finalize q) before true h = h
  keeps_nullified s before false h = h

  pub known_notarized :
      (past : Conduct D) (p : Proposal D) → Knows past (Notarize p)
      → is_some (learned_of past p.round).notarized ≡ true
  known_notarized [] p h = absurd h
  known_notarized (voted s ∷ past) p h = known_notarized past p h
  known_notarized (learned s ∷ past) p (inl e) =
      rw (e) (rw (same_round-refl p.round) refl)
  known_notarized (learned s ∷ past) p (inr h) =
      keeps_notarized s (learned_of past p.round) (same_round (round_in s) p.round)
      (known_notarized past p h)

  pub known_finalized :
      (past : Conduct D) (p : Proposal D) → Knows past (Finalize p)
      → is_some (learned_of past p.round).finalized ≡ true
  known_finalized [] p h = absurd h
  known_finalized (voted s ∷ past) p h = known_finalized past p h
  known_finalized (learned s ∷ past) p (inl e) =
      rw (e) (rw (same_round-refl p.round) refl)
  known_finalized (learned s ∷ past) p (inr h) =
      keeps_finalized s (learned_of past p.round) (same_round (round_in s) p.round)
      (known_finalized past p h)

  pub known_nullified :
      (past : Conduct D) (number : Round) → Knows past (Nullify number)
      → (learned_of past number).nullified ≡ true
  known_nullified [] number h = absurd h
  known_nullified (voted s ∷ past) number h = known_nullified past number h
  known_nullified (learned s ∷ past) number (inl e) =
      rw (e) (rw (same_round-refl number) refl)
  known_nullified (learned s ∷ past) number (inr h) =
      keeps_nullified s (learned_of past number) (same_round (round_in s) number)
      (known_nullified past number h)
