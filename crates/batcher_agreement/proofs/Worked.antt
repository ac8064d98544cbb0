-- The example of participants that agree, computed.
use Rattle.batcher_agreement.proofs.Words.{◌≡◌, ℕ, zero, suc, true, false, not, [], ◌∷◌, Some, None, Option, inl, inr, ◌⊎◌, ap, refl, arith, sym, same_Some}
use Rattle.batcher_agreement.proofs.Words.{finalization, listing, notarization, p, subject_certified, Certificate, Subject, Finalize, Notarize, Nullify}
use Rattle.batcher_agreement.proofs.Words.{AreNamed, of_four, AgreementExamples, asked, did, is_zero, HasHeld, node_history, IsHonest, Conduct, HasVoted}
use Rattle.batcher_agreement.proofs.Words.{KeepsPolicy, learned, voted}
use Rattle.batcher_agreement.specs.Cuts.{KeepPolicyByDisk, all_done_in}
use Rattle.batcher_agreement.specs.Examples.{two_lives}
use Rattle.batcher.specs.Keys.{index_of}

-- The honest are 1, 2 and 3.
each : (P : ℕ → Type 0) → P 1 → P 2 → P 3 → (i : ℕ) → IsHonest (listing 4) is_zero i → P i
each P one two three zero honest = absurd (wrong honest.honest)
  where
    wrong : true ≡ false → ⊥
    wrong e = absurd cc
each P one two three (suc zero) honest = one
each P one two three (suc (suc zero)) honest = two
each P one two three (suc (suc (suc zero))) honest = three
each P one two three (suc (suc (suc (suc i)))) honest = absurd (omega (arith, honest.takes_part))

abbrev notarized : Subject ℕ
notarized = Notarize (p 1)

abbrev finalized : Subject ℕ
finalized = Finalize (p 1)

-- what each of them did
abbrev each_did : Conduct ℕ
each_did = learned finalized ∷ voted finalized ∷ learned notarized ∷ voted notarized ∷ []

keeps : KeepsPolicy each_did
keeps = (
  record { notarized = inl refl; not_nullified = λ h. none h },
  (
    record {
      grounded = record {
        earlier = omega arith;
        parent = inl refl;
        between = λ view above below. absurd (omega (arith, above, below));
      };
      no_other = λ q same h. absurd h;
      not_nullified = λ h. h;
    },
    tt,
  ),
) where
  none : HasVoted (learned notarized ∷ voted notarized ∷ []) (Nullify (p 1).round) → ⊥
  none (inl e) = absurd cc
  none (inr h) = h

abbrev Is : Certificate ℕ ℕ → Option (Certificate ℕ ℕ) → Type 0
Is c held = held ≡ Some c

-- what its certificates are of
of_these : (c : Certificate ℕ ℕ)
    → Is c (Some (finalization 1))
    ⊎ (Is c None ⊎ (Is c None ⊎ (Is c (Some (notarization 1))
    ⊎ (Is c None ⊎ (Is c None ⊎ (Is c None ⊎ (Is c None ⊎ ⊥)))))))
    → (subject_certified c ≡ finalized) ⊎ (subject_certified c ≡ notarized)
of_these c (inl e) = inl (ap subject_certified (sym (same_Some (finalization 1) c e)))
of_these c (inr (inl e)) = absurd cc
of_these c (inr (inr (inl e))) = absurd cc
of_these c (inr (inr (inr (inl e)))) = inr (ap subject_certified (sym (same_Some (notarization 1) c e)))
of_these c (inr (inr (inr (inr (inl e))))) = absurd cc
of_these c (inr (inr (inr (inr (inr (inl e)))))) = absurd cc
of_these c (inr (inr (inr (inr (inr (inr (inl e))))))) = absurd cc
of_these c (inr (inr (inr (inr (inr (inr (inr (inl e)))))))) = absurd cc
of_these c (inr (inr (inr (inr (inr (inr (inr (inr h)))))))) = absurd h

voted_either : (s : Subject ℕ) → (s ≡ finalized) ⊎ (s ≡ notarized) → HasVoted each_did s
voted_either s (inl e) = inl (sym e)
voted_either s (inr e) = inr (inl (sym e))

kept : KeepPolicyByDisk two_lives
kept = (
  (record { notarized = inl refl; not_nullified = λ h. h }, tt),
  ((λ p same h. h, tt), tt),
)

not_by_all : KeepsPolicy (all_done_in two_lives) → ⊥
not_by_all keeps = keeps.0.not_nullified (inl refl)

pub computed : AgreementExamples
unfolding index_of
computed = record {
  kept_by_disk = kept;
  not_by_all = not_by_all;
  few_faulty = record { some = omega arith; few = omega arith };
  answered_rightly = each (λ i. AreNamed of_four (node_history (asked i))) (
      (refl, ((refl, (refl, refl)), (refl, ((refl, (refl, refl)), ((omega arith, refl), (refl, tt))))))
      ) (
      (refl, ((refl, (refl, refl)), (refl, ((refl, (refl, refl)), ((omega arith, refl), (refl, tt))))))
      ) (
      (refl, ((refl, (refl, refl)), (refl, ((refl, (refl, refl)), ((omega arith, refl), (refl, tt))))))
      );
  keep_policy = each (λ i. KeepsPolicy (did i)) keeps keeps keeps;
  backed = λ i honest c held certifies. record {
    voted = λ j. not (is_zero j);
    enough = omega arith;
    unforged = λ j other voted.
        each (λ j. HasVoted (did j) (subject_certified c))
        (voted_either (subject_certified c) (of_one i honest c held))
        (voted_either (subject_certified c) (of_one i honest c held))
        (voted_either (subject_certified c) (of_one i honest c held)) j other;
  };
  final = record {
    holder = 1;
    honest = record { takes_part = omega arith; honest = refl };
    knows = inl refl;
  };
} where
  of_one : (i : ℕ) → IsHonest (listing 4) is_zero i → (c : Certificate ℕ ℕ) → HasHeld (asked i) c
      → (subject_certified c ≡ finalized) ⊎ (subject_certified c ≡ notarized)
  of_one i honest c =
      each (λ i. HasHeld (asked i) c
      → (subject_certified c ≡ finalized) ⊎ (subject_certified c ≡ notarized))
      (of_these c) (of_these c) (of_these c) i honest
