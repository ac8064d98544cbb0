-- Who signed what each of two certificates certifies.
use Rattle.std.specs.Prelude.{◌≡◌, ◌<◌, ◌≤◌, ◌+◌, ◌-◌, ◌/◌, ◌==◌, ◌&&◌, ℕ, Bool, cond, nat_lt, List}
use Rattle.std.specs.Prelude.{length, Option, Some, None}
use Rattle.std.specs.List.{list_any, find, filter_map, AllPass}
use Rattle.std.specs.Option.{option_map}
use Rattle.batcher.specs.Quorum.{quorum_of}
use Rattle.batcher.specs.Ascending.{IsAscending}
use Rattle.batcher.specs.Attestations.{index_of_signer}
use Rattle.batcher.specs.Meaning.{Meaning}
use Rattle.batcher.specs.Votes.{subject_certified, content_of}
use Rattle.batcher.specs.Verifiers.{certifies_itself}
use Rattle.batcher.specs.Reports.{subjects_contradict}
use Rattle.batcher.specs.messages.Attestation.{Attestation}
use Rattle.batcher.specs.messages.Subject.{Subject}
use Rattle.batcher.specs.messages.Certificate.{Certificate}
use Rattle.batcher_evidence.specs.declared.certificates.Culprit.{Culprit}
use Rattle.batcher_evidence.specs.SignedQuorums.{has_signed}

-- whether nobody honest signs what both certify
abbrev pub certificates_contradict :
    {C D : Type 0} → (D → D → Bool) → Certificate C D → Certificate C D → Bool
certificates_contradict same a b =
    subjects_contradict same (subject_certified a) (subject_certified b)

module _ {G : Type 0} where
  abbrev pub index_of_culprit : Culprit G → ℕ
  index_of_culprit culprit = index_of_signer culprit.first

  -- an attestation with the one of the list that is of its signer
  abbrev pub beside : List (Attestation G) → Attestation G → Option (Culprit G)
  beside second a =
      option_map (λ b. record { first = a; second = b })
      (find (λ b. index_of_signer b == index_of_signer a) second)

  -- those of the first list whose signers the second has too, in the order of the first
  abbrev pub signed_both : List (Attestation G) → List (Attestation G) → List (Culprit G)
  signed_both first second = filter_map (beside second) first

module _ {D K G C : Type 0} (m : Meaning D K G C) where
  -- whether the two attestations are of one signer, and each attests its subject
  abbrev pub attests_both : Subject D → Subject D → Culprit G → Bool
  attests_both subject other culprit =
      (index_of_signer culprit.second == index_of_signer culprit.first)
      && (m.attests subject culprit.first && m.attests other culprit.second)

  -- These are the participants who signed what each of the two certificates certifies: each of
  -- them, once, in ascending order, with two attestations that show it. They are as many as two
  -- quorums are more than all participants, and so more than may be faulty.
  pub record AreCulprits
      (shown : C → List (Attestation G)) (a b : Certificate C D) (found : List (Culprit G)) : Type 0
    where
      pub ascending : IsAscending index_of_culprit found
      pub attested : AllPass (attests_both (subject_certified a) (subject_certified b)) found
      pub exactly :
          (i : ℕ) → list_any (λ culprit. index_of_culprit culprit == i) found
          ≡ (has_signed m (subject_certified a) (shown (content_of a)) i
          && has_signed m (subject_certified b) (shown (content_of b)) i)
      pub participants :
          AllPass (λ culprit. nat_lt (index_of_culprit culprit) (length m.participants)) found
      pub enough :
          quorum_of (length m.participants) + quorum_of (length m.participants)
          ≤ length found + length m.participants
      pub more_than_faulty : (length m.participants - 1) / 3 < length found

  -- who signed both of two certificates, where they certify and contradict each other
  abbrev pub culprits_of :
      (C → List (Attestation G)) → (D → D → Bool) → Certificate C D → Certificate C D
      → Option (List (Culprit G))
  culprits_of shown same a b =
      cond
      (certifies_itself m a && (certifies_itself m b && certificates_contradict same a b))
      (Some (signed_both (shown (content_of a)) (shown (content_of b))))
      None
