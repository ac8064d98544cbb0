-- What a notarization notarizes that was given to be sent is given to be forwarded, and once.
use Rattle.batcher_validator.proofs.Words.{◌≡◌, ◌⊎◌, ◌∙◌, ◌∷◌, [], Option, Some, None, ap, inl, inr, refl, subst, sym, Kind, Finalization, Notarization}
use Rattle.batcher_validator.proofs.Words.{Nullification, Round, Conduct, NodeConfig, HasForwarded, HasHanded, ValidatorHistory, again, forward_with, gave}
use Rattle.batcher_validator.proofs.Words.{to_forward, took, turn_in, window_by, AreGivenInTurn, Forward, SendCertificate}
use Rattle.batcher_validator.proofs.Repeating.{due_still, still_due}

no_both : {number : Round} (o : Option Round) → o ≡ None → o ≡ Some number → ⊥
no_both o none some = absurd cc

abbrev notarization_of : Round → Kind × Round
notarization_of number = (Notarization, number)

is_it : {other number : Round} (o : Option Round) → o ≡ Some other → o ≡ Some number
    → other ≡ number
is_it o one two = cc (sym one ∙ two)

-- A notarization that was given to be sent is forwarded, or to be.
pub all_forwarded :
    {D K G C : Type 0} (x : NodeConfig D K G C) (earlier : Conduct D)
    (past : ValidatorHistory D K G C)
    → AreGivenInTurn x earlier past → (number : Round) → HasHanded past (Notarization, number)
    → HasForwarded past number ⊎ (to_forward past ≡ Some number)
all_forwarded x earlier [] turn number handed = absurd handed
all_forwarded x earlier (again ∷ past) turn number handed =
    elim (all_forwarded x earlier past turn number handed.1) [
      | inl was ↦ inl (handed.0, was)
      | inr due ↦ inr (due_still (window_by past) (turn_in past) (to_forward past) number due handed.0)
    ]
all_forwarded x earlier (gave (SendCertificate kind other) ∷ past) turn number (inl same) =
    inr (subst (λ (k : Kind × Round). forward_with k.0 k.1 (to_forward past) ≡ Some number) (sym same) refl)
all_forwarded x earlier (gave (SendCertificate kind other) ∷ past) turn number (inr before) =
    elim (all_forwarded x earlier past turn.1 number before) [
      | inl was ↦ inl was
      | inr due ↦ absurd (no_both (to_forward past) turn.0.1.1 due)
    ]
all_forwarded x earlier (gave (Forward other) ∷ past) turn number handed =
    elim (all_forwarded x earlier past turn.1 number handed) [
      | inl was ↦ inl (inr was)
      | inr due ↦ inl (inl (is_it (to_forward past) turn.0.0 due))
    ]
all_forwarded x earlier (gave task ∷ past) turn number handed =
    all_forwarded x earlier past turn.1 number handed
all_forwarded x earlier (took c ∷ past) turn number handed =
    all_forwarded x earlier past turn.1 number handed
all_forwarded x earlier (event ∷ past) turn number handed =
    all_forwarded x earlier past turn number handed

-- What is to be forwarded was given to be sent,
handed_before :
    {D K G C : Type 0} (past : ValidatorHistory D K G C) (number : Round)
    → to_forward past ≡ Some number → HasHanded past (Notarization, number)
handed_before [] number due = absurd cc
handed_before (again ∷ past) number due =
    let still = still_due (window_by past) (turn_in past) (to_forward past) number due in
    (still.1, handed_before past number still.0)
handed_before (gave (SendCertificate Notarization other) ∷ past) number due =
    inl (ap notarization_of (is_it (Some other) refl due))
handed_before (gave (SendCertificate Nullification other) ∷ past) number due =
    inr (handed_before past number due)
handed_before (gave (SendCertificate Finalization other) ∷ past) number due =
    inr (handed_before past number due)
handed_before (gave (Forward other) ∷ past) number due = absurd cc
handed_before (gave task ∷ past) number due = handed_before past number due
handed_before (event ∷ past) number due = handed_before past number due

-- and so was what was forwarded.
forwarded_handed :
    {D K G C : Type 0} (x : NodeConfig D K G C) (earlier : Conduct D)
    (past : ValidatorHistory D K G C)
    → AreGivenInTurn x earlier past → (number : Round) → HasForwarded past number
    → HasHanded past (Notarization, number)
forwarded_handed x earlier [] turn number was = absurd was
forwarded_handed x earlier (again ∷ past) turn number was =
    (was.0, forwarded_handed x earlier past turn number was.1)
forwarded_handed x earlier (gave (SendCertificate kind other) ∷ past) turn number was =
    inr (forwarded_handed x earlier past turn.1 number was)
forwarded_handed x earlier (gave (Forward other) ∷ past) turn number (inl same) =
    subst (λ r. HasHanded past (Notarization, r)) same (handed_before past other turn.0.0)
forwarded_handed x earlier (gave (Forward other) ∷ past) turn number (inr was) =
    forwarded_handed x earlier past turn.1 number was
forwarded_handed x earlier (gave task ∷ past) turn number was =
    forwarded_handed x earlier past turn.1 number was
forwarded_handed x earlier (took c ∷ past) turn number was =
    forwarded_handed x earlier past turn.1 number was
forwarded_handed x earlier (event ∷ past) turn number was =
    forwarded_handed x earlier past turn number was

-- So nothing is forwarded twice, since no certificate is given to be sent twice.
pub not_forwarded :
    {D K G C : Type 0} (x : NodeConfig D K G C) (earlier : Conduct D)
    (past : ValidatorHistory D K G C)
    → AreGivenInTurn x earlier past → (number : Round) → to_forward past ≡ Some number
    → HasForwarded past number → ⊥
not_forwarded x earlier [] turn number due was = was
not_forwarded x earlier (again ∷ past) turn number due was =
    not_forwarded x earlier past turn number
    (still_due (window_by past) (turn_in past) (to_forward past) number due).0 was.1
not_forwarded x earlier (gave (SendCertificate Notarization other) ∷ past) turn number due was =
    turn.0.1.0 (subst (λ r. HasHanded past (Notarization, r)) (sym (is_it (Some other) refl due))
    (forwarded_handed x earlier past turn.1 number was))
not_forwarded x earlier (gave (SendCertificate Nullification other) ∷ past) turn number due was =
    no_both (to_forward past) turn.0.1.1 due
not_forwarded x earlier (gave (SendCertificate Finalization other) ∷ past) turn number due was =
    no_both (to_forward past) turn.0.1.1 due
not_forwarded x earlier (gave (Forward other) ∷ past) turn number due was = absurd cc
not_forwarded x earlier (gave task ∷ past) turn number due was =
    not_forwarded x earlier past turn.1 number due was
not_forwarded x earlier (took c ∷ past) turn number due was =
    not_forwarded x earlier past turn.1 number due was
not_forwarded x earlier (event ∷ past) turn number due was =
    not_forwarded x earlier past turn number due was
