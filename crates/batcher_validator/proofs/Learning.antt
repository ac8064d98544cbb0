-- What a validator has is known to its voter.
use Rattle.batcher_validator.proofs.Words.{◌≡◌, ◌++◌, [], ◌∷◌, Option, Some, None, ap, inl, inr, subst, unwrap_or, subject_certified, Certificate, Subject}
use Rattle.batcher_validator.proofs.Words.{VoterEvent, acts_of, called, conduct_of, held_by, learned_by, verified, written, Conduct, Knows, learned, voted}
use Rattle.batcher_validator.proofs.Words.{NodeConfig, HasHad, ValidatorHistory, began, did, gave, took, voter_history, AreGivenInTurn}

knows_after : {D : Type 0} (more past : Conduct D) (s : Subject D) → Knows past s
    → Knows (more ++ past) s
knows_after [] past s known = known
knows_after (voted t ∷ more) past s known = knows_after more past s known
knows_after (learned t ∷ more) past s known = inr (knows_after more past s known)

held_is_known :
    {C D : Type 0} (held : Option (Certificate C D)) (past : Conduct D) (c : Certificate C D)
    → held ≡ Some c → Knows (learned_by held ++ past) (subject_certified c)
held_is_known (Some d) past c e = inl (ap (λ o. subject_certified (unwrap_or o c)) e)
held_is_known None past c e = absurd cc

module _ {D K G C : Type 0} where
  -- what an event brought is known after it
  brings :
      (event : VoterEvent D K G C) (past : Conduct D) (c : Certificate C D)
      → held_by event ≡ Some c → Knows (acts_of event ++ past) (subject_certified c)
  brings (called event) past c e = held_is_known (held_by (called event)) past c e
  brings (verified d) past c e = held_is_known (Some d) past c e
  brings (written vote) past c e = absurd cc

  pub all_learned :
      (x : NodeConfig D K G C) (earlier : Conduct D) (past : ValidatorHistory D K G C)
      → AreGivenInTurn x earlier past → (c : Certificate C D) → HasHad past c
      → Knows (conduct_of (voter_history past)) (subject_certified c)
  all_learned x earlier [] turn c had = absurd had
  all_learned x earlier (took d ∷ past) turn c (inl is) =
      subst (λ e. Knows (conduct_of (voter_history past)) (subject_certified e)) is turn.0
  all_learned x earlier (took d ∷ past) turn c (inr had) = all_learned x earlier past turn.1 c had
  all_learned x earlier (did event ∷ past) turn c (inl is) =
      brings event (conduct_of (voter_history past)) c is
  all_learned x earlier (did event ∷ past) turn c (inr had) =
      knows_after (acts_of event) (conduct_of (voter_history past)) (subject_certified c)
      (all_learned x earlier past turn c had)
  all_learned x earlier (gave task ∷ past) turn c had = all_learned x earlier past turn.1 c had
  all_learned x earlier (began me before ∷ past) turn c had = absurd had
  all_learned x earlier (event ∷ past) turn c had = all_learned x earlier past turn c had
