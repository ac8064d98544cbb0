-- The examples are computed.
use Rattle.batcher_evidence.proofs.Words.{◌≡◌, ◌<◌, ℕ, true, [], ◌∷◌, ap, arith, get_or, inl, refl, subst, sym, certifies_itself, subject_certified, p}
use Rattle.batcher_evidence.proofs.Words.{the_round, Proposal, Nullify, Round, IsFork, IsShown, EvidenceExamples, TinyCertificate, finalization_with}
use Rattle.batcher_evidence.proofs.Words.{first_three, in_full, last_three, listed, next, next_notarized, notarized, nullified}
use Rattle.batcher_evidence.proofs.Forked.{round_of}
use Rattle.batcher.specs.Keys.{index_of}

shown :
    (k : ℕ) → (c : TinyCertificate) → k < 4 → get_or in_full k c ≡ c
    → certifies_itself listed c ≡ true → IsShown listed in_full (subject_certified c)
shown k c low at certifies =
    record { certificate = c; held = (k, low, at); is_of = refl; certifies = certifies }

only : (number : Round) → number.epoch ≡ next.round.epoch → 0 < number.view.0 → number.view.0 < 2
    → IsShown listed in_full (Nullify number)
only number epoch above below =
    subst (λ it. IsShown listed in_full (Nullify it)) (sym (round_of number the_round epoch (omega (arith, above, below))))
    (shown 0 (nullified last_three) (omega arith) refl refl)

differ : (a b : ℕ) → a ≡ 2 → b ≡ 1 → a ≡ b → ⊥
differ a b two one same = omega (arith, two, one, same)

fork : IsFork listed in_full (p 1) (next ∷ [])
fork =
    record {
      finalized = shown 1 (finalization_with 1 first_three) (omega arith) refl refl;
      notarized = shown 2 (notarized 1 first_three) (omega arith) refl refl;
      grounded = (record { certified = inl (shown 3 next_notarized (omega arith) refl refl); between = only }, tt);
      linked = tt;
      begins_above = (refl, omega arith);
      ends_below = omega arith;
      without = (λ equal. differ 2 1 refl refl (ap (λ (it : Proposal ℕ). it.payload) equal), tt);
    }

pub computed : EvidenceExamples
unfolding index_of
computed =
    record {
      two_more = refl;
      two_culprits = refl;
      of_one_list = refl;
      nullify_and_finalize = refl;
      of_one_proposal = refl;
      notarize_and_finalize = refl;
      notarize_and_nullify = refl;
      below_the_quorum = refl;
      fork = fork;
      shown_in_full = refl;
      shown_in_part = refl;
      both_good = refl;
      second_bad = refl;
      one_vote = refl;
      first_gives = inl refl;
      second_gives = inl refl;
      given_contradict = refl;
      two_voted_both = refl;
    }
