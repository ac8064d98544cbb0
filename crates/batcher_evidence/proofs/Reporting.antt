-- A report whose two votes attest convicts their signer.
use Rattle.batcher_evidence.proofs.Words.{◌≡◌, ℕ, Bool, true, cond, List, [], ◌∷◌, Option, Some, None, refl, ap, ◌∙◌, IfSome, is_some, option_and_then}
use Rattle.batcher_evidence.proofs.Words.{and_from, eq-eqb, Ordering, Meaning, Config, signer_of, subject_of, attestation_of, subjects_contradict, evidence_in}
use Rattle.batcher_evidence.proofs.Words.{AreContrary, ReportsContrary, History, names_sender, AtEachVote, votes_cast, Participant, Vote, Activity, Admission}
use Rattle.batcher_evidence.proofs.Words.{NetworkCall, NetworkAnswer, both_attest, convicts, convicted_by, ConvictsIfAttested, ReportsConvict, config_with}

module _ {D K G C : Type 0} (holds more : History D K G C → K → Vote G D → Admission G D → Type 0)
    (then : (past : History D K G C) (sender : K) (vote : Vote G D) (admission : Admission G D)
    → holds past sender vote admission → more past sender vote admission) where
  at_each_more : (past : History D K G C) → AtEachVote holds past → AtEachVote more past
  at_each_more [] each = tt
  at_each_more ((NetworkCall sender vote, NetworkAnswer admission) ∷ past) each =
      (then past sender vote admission each.0, at_each_more past each.1)
  at_each_more (event ∷ past) each = at_each_more past each

made_participant : ℕ → Participant
made_participant k = record { 0 = k }

same_participant : (a b : Participant) → a.0 ≡ b.0 → a ≡ b
unfolding made_participant
same_participant a b e = ap made_participant e

-- what is known of an option's value, as it is found
if_found :
    {X : Type 0} (o : Option X) (P Q : X → Type 0) → ((v : X) → o ≡ Some v → P v → Q v)
    → IfSome o P → IfSome o Q
if_found None P Q more h = tt
if_found (Some v) P Q more h = more v refl h

module _ {D K G C : Type 0} (x : Config D K G C) where
  convicts_now :
      (report : Activity G D) (pair : Vote G D × Vote G D) (vote : Vote G D)
      → evidence_in report ≡ Some pair → signer_of pair.0 ≡ signer_of pair.1
      → subjects_contradict x.same_digest (subject_of pair.0) (subject_of pair.1) ≡ true
      → signer_of pair.0 ≡ signer_of vote → both_attest x.meaning pair.0 pair.1 ≡ true
      → convicted_by x.meaning x.same_digest report ≡ Some (attestation_of vote).signer
  convicts_now report pair vote holds one contradict by attest =
      ap
      (option_and_then (λ p. cond (convicts x.meaning x.same_digest p.0 p.1) (Some (attestation_of p.0).signer) None))
      holds
      ∙ (ap
      (λ b. cond b (Some (attestation_of pair.0).signer) None)
      (and_from _ _ (eq-eqb (signer_of pair.0) (signer_of pair.1) one) (and_from _ _ contradict attest))
      ∙ ap Some (same_participant (attestation_of pair.0).signer (attestation_of vote).signer by))

  -- what a report holds that is contrary, with other facts B and N of it
  abbrev IsContrary : List (Vote G D) → Type 0 → Type 0 → Vote G D → Vote G D × Vote G D → Type 0
  IsContrary votes B N vote pair =
      AreContrary x votes pair.0 pair.1 × (B × (N × (signer_of pair.0 ≡ signer_of vote)))

  by_report :
      (vote : Vote G D) (report : Option (Activity G D)) (votes : List (Vote G D)) (B N : Type 0)
      → IfSome (option_and_then evidence_in report) (IsContrary votes B N vote)
      → IfSome report (λ r. IfSome (evidence_in r) (λ pair.
      both_attest x.meaning pair.0 pair.1 ≡ true
      → convicted_by x.meaning x.same_digest r ≡ Some (attestation_of vote).signer))
  by_report vote None votes B N h = tt
  by_report vote (Some r) votes B N h =
      if_found (evidence_in r) (IsContrary votes B N vote)
      (λ pair. both_attest x.meaning pair.0 pair.1 ≡ true → convicted_by x.meaning x.same_digest r ≡ Some (attestation_of vote).signer)
      (λ pair is facts attest. convicts_now r pair vote is facts.0.one_signer facts.0.contradict facts.1.1.1 attest)
      h

  convicts_then :
      (past : History D K G C) (sender : K) (vote : Vote G D) (admission : Admission G D)
      → ReportsContrary x past sender vote admission
      → ConvictsIfAttested x.meaning x.same_digest past sender vote admission
  convicts_then past sender vote admission h =
      by_report vote admission.report
      (votes_cast x ((NetworkCall sender vote, NetworkAnswer admission) ∷ past))
      (is_some admission.block ≡ true) (names_sender x sender vote ≡ true) h

pub reports_that_convict :
    {D K G C : Type 0} (m : Meaning D K G C) (compare_keys : K → K → Ordering)
    (same_signature : G → G → Bool) (same_digest : D → D → Bool)
    → ReportsConvict m compare_keys same_signature same_digest
reports_that_convict m compare same_signature same number mode past run =
    let x = config_with m compare same_signature same number mode in
    at_each_more (ReportsContrary x) (ConvictsIfAttested m same) (convicts_then x)
    past run.reports_truly.evidence_is_contrary
