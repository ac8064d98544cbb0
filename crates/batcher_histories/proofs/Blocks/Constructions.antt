-- How many constructions are made by who makes none of a round that is at rest.
use Rattle.batcher_histories.proofs.Words.{◌≡◌, ◌≤◌, ◌+◌, ℕ, Bool, true, false, cond, [], ◌∷◌, Option, Some, None, refl, ap, arith, Certificate, Batch}
use Rattle.batcher_histories.proofs.Words.{NetworkCall, OwnCall, CertificateCall, LeaderCall, ConstructCall, ForwardCall, MissingCall, ConstructAnswer, Config}
use Rattle.batcher_histories.proofs.Words.{Event, History, IsPossible, AtEachEvent, batches_given, constructions_made, others_made, is_at_rest}
use Rattle.batcher_histories.proofs.Words.{ConstructsUnlessAtRest}
use Rattle.batcher_histories.proofs.Quorums.Completed.{construct_answered}

-- one construction more may be made where the round isn't at rest
abbrev more_at : Bool → ℕ
more_at resting = cond resting 0 1

more_few : (resting : Bool) → more_at resting ≤ 1
more_few true = omega arith
more_few false = omega arith

module _ {D K G C : Type 0} where
  -- Constructions are no more than batches and other calls, and less where the round isn't at rest.
  abbrev AreFew : History D K G C → Type 0
  AreFew past = constructions_made past + more_at (is_at_rest past) ≤ batches_given past + others_made past

  constructed_few : (past : History D K G C) (given : Option (Batch (Certificate C D)))
      → AreFew past
      → is_at_rest past ≡ false → AreFew ((ConstructCall, ConstructAnswer given) ∷ past)
  constructed_few past None few awake = omega (arith, few, ap more_at awake)
  constructed_few past (Some batch) few awake = omega (arith, few, ap more_at awake)

module _ {D K G C : Type 0} (x : Config D K G C) where
  one_more_few : (past : History D K G C) (event : Event D K G C) → IsPossible x (event ∷ past)
      → ConstructsUnlessAtRest past event → AreFew past → AreFew (event ∷ past)
  one_more_few past (ConstructCall, answer) possible unless few =
      construct_answered x past answer possible.1.1.0 (λ a. AreFew ((ConstructCall, a) ∷ past))
      (λ given may. constructed_few past given few (unless refl))
  one_more_few past (NetworkCall sender vote, answer) possible unless few =
      omega (arith, few, more_few (is_at_rest ((NetworkCall sender vote, answer) ∷ past)))
  one_more_few past (OwnCall vote, answer) possible unless few = omega (arith, few, more_few (is_at_rest ((OwnCall vote, answer) ∷ past)))
  one_more_few past (CertificateCall c, answer) possible unless few = omega (arith, few, more_few (is_at_rest ((CertificateCall c, answer) ∷ past)))
  one_more_few past (LeaderCall i, answer) possible unless few = omega (arith, few, more_few (is_at_rest ((LeaderCall i, answer) ∷ past)))
  one_more_few past (ForwardCall me, answer) possible unless few = omega (arith, few, more_few (is_at_rest ((ForwardCall me, answer) ∷ past)))
  one_more_few past (MissingCall p, answer) possible unless few = omega (arith, few, more_few (is_at_rest ((MissingCall p, answer) ∷ past)))

  pub constructions_few : (past : History D K G C) → IsPossible x past
      → AtEachEvent ConstructsUnlessAtRest past → AreFew past
  constructions_few [] possible unless = omega arith
  constructions_few (event ∷ past) possible unless =
      one_more_few past event possible unless.0 (constructions_few past possible.1.1.1 unless.1)
