-- A report that convicts a participant holds a proof.
use Rattle.batcher_evidence.proofs.Words.{◌≡◌, ◌==◌, ◌&&◌, Bool, true, false, cond, Option, Some, None, refl, ap, sym, ◌∙◌, IfSome, IfOk, Result, Ok, Err}
use Rattle.batcher_evidence.proofs.Words.{option_and_then, and_assoc, and_parts, eqb-true, same_Some, Meaning, signer_of, subject_of, attestation_of}
use Rattle.batcher_evidence.proofs.Words.{subjects_contradict, evidence_in, Participant, Vote, Activity, both_attest, convicts, convicted_by, convicted_where}
use Rattle.batcher_evidence.proofs.Words.{may_convict, AreVerdicts, IsProof}

module _ {D K G C : Type 0} (m : Meaning D K G C) (same : D → D → Bool) where
  proof_of :
      (report : Activity G D) (a b : Vote G D) → evidence_in report ≡ Some (a, b)
      → (i : Participant) (yes : Bool) → convicts m same a b ≡ yes
      → cond yes (Some (attestation_of a).signer) None ≡ Some i → IsProof m same report i
  proof_of report a b holds i true is found =
      let signer : signer_of a ≡ i.0 = ap (λ (p : Participant). p.0) (same_Some _ _ found) in
      let one = and_parts (signer_of a == signer_of b) _ is in
      let rest = and_parts (subjects_contradict same (subject_of a) (subject_of b)) (both_attest m a b) one.1 in
      record {
        first = a;
        second = b;
        holds = holds;
        signers = (signer, sym (eqb-true _ _ one.0) ∙ signer);
        contradict = rest.0;
        attest = rest.1;
      }
  proof_of report a b holds i false is found = absurd (cc)

  by_evidence :
      (report : Activity G D) (o : Option (Vote G D × Vote G D)) → evidence_in report ≡ o
      → (i : Participant)
      → option_and_then
      (λ pair. cond (convicts m same pair.0 pair.1) (Some (attestation_of pair.0).signer) None)
      o
      ≡ Some i
      → IsProof m same report i
  by_evidence report None e i found = absurd (cc)
  by_evidence report (Some pair) e i found =
      proof_of report pair.0 pair.1 e i (convicts m same pair.0 pair.1) refl found

  pub convicted_proves :
      (report : Activity G D) (found : Option Participant) → found ≡ convicted_by m same report
      → IfSome found (IsProof m same report)
  convicted_proves report None e = tt
  convicted_proves report (Some i) e = by_evidence report (evidence_in report) refl i (sym e)

  pub convicted_if_ok :
      {E : Type 0} (report : Activity G D) (r : Result (Option Participant) E)
      → IfOk r (λ found. found ≡ convicted_by m same report)
      → IfOk r (λ found. IfSome found (IsProof m same report))
  convicted_if_ok report (Ok found) e = convicted_proves report found e
  convicted_if_ok report (Err fault) e = tt

  -- by verdicts that are the scheme's
  by_pair : (o : Option (Vote G D × Vote G D)) (first second : Bool)
      → IfSome o (λ pair. (first ≡ m.attests (subject_of pair.0) (attestation_of pair.0))
      × (second ≡ m.attests (subject_of pair.1) (attestation_of pair.1)))
      → option_and_then (λ pair. cond (may_convict same pair.0 pair.1 && (first && second))
      (Some (attestation_of pair.0).signer) None) o
      ≡ option_and_then (λ pair. cond (convicts m same pair.0 pair.1)
      (Some (attestation_of pair.0).signer) None) o
  by_pair None first second are = refl
  by_pair (Some pair) first second are =
      let a = signer_of pair.0 == signer_of pair.1 in
      let b = subjects_contradict same (subject_of pair.0) (subject_of pair.1) in
      ap (λ t. cond t (Some (attestation_of pair.0).signer) None)
      (ap (λ t. (a && b) && (t && second)) are.0
      ∙ ap (λ t. (a && b) && (m.attests (subject_of pair.0) (attestation_of pair.0) && t)) are.1
      ∙ and_assoc a b (both_attest m pair.0 pair.1))

  pub convicted_where_is : (report : Activity G D) (first second : Bool)
      → AreVerdicts m report first second
      → convicted_where same report (first && second) ≡ convicted_by m same report
  convicted_where_is report first second are = by_pair (evidence_in report) first second are
