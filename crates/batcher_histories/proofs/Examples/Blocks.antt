-- The examples of blocks and reports are computed, and the wrong answers refuted.
use Rattle.batcher_histories.proofs.Words.{◌≡◌, ◌==◌, Bool, true, false, Option, Some, None, arith, refl, ap, sym, ◌∙◌, true≢false, false≢true, same_Some}
use Rattle.batcher_histories.proofs.Words.{Finalization, participant, is_for, TinyVote, p, finalize, BlockExamples}
use Rattle.batcher_types.specs.Keys.{index_of}

none_is_some : {X : Type 0} (v : X) → ◌≡◌ {A = Option X} None (Some v) → ⊥
none_is_some v h = cc

some_differ : {X : Type 0} (test : X → Bool) (v w : X) → test v ≡ false → test w ≡ true →
    Some v ≡ Some w → ⊥
some_differ test v w fails passes h = false≢true (sym fails ∙ (ap test (same_Some v w h) ∙ passes))

abbrev is_for_first : TinyVote → Bool
is_for_first vote = is_for (λ a b. a == b) (p 1) vote

pub just : BlockExamples
unfolding index_of
just =
    record {
      opposite_in_a_skipped_round = refl;
      opposite_after_the_release = refl;
      before_the_release = refl;
      untold_after_the_release = refl;
      untold_gives_cause = refl;
      told_where_votes_are_retained = refl;
      repeat = refl;
      bad_repeat = refl;
      repeat_after_a_refused_vote = refl;
      repeat_where_votes_are_retained = refl;
      forgiven = refl;
      cause_of_the_forgiven = refl;
      finalize_then_nullify = refl;
      nullify_then_finalize = refl;
      finalizes_in_order = refl;
      own_vote_first = refl;
      notarize_and_finalize = refl;
      evidence_released = refl;
      evidence_kept = refl;
      sent_by_another = refl;
      own_duplicate_not_reported = refl;
      unforgiving = λ holds. false≢true (holds.0 refl);
      lenient_to_opposites = λ holds. false≢true (holds.0 refl);
      lenient_to_strangers = λ holds. false≢true (holds.0 refl);
      lenient_before_the_release = λ holds. false≢true (holds.0 refl);
      strict_before_the_release = λ holds. true≢false (holds.0 refl);
      strict_where_votes_are_retained = λ holds. true≢false (holds.0 refl);
      listed_without_cause = λ holds. false≢true (holds 0 0 (omega arith) (participant 1) refl);
      added_in_silence = λ holds. none_is_some _ holds.0;
      reported_though_refused = λ holds. none_is_some _ (sym holds.0);
      another_reported = λ holds. some_differ is_for_first _ _ refl refl holds.0;
      own_duplicate_reported = λ holds. none_is_some _ (sym holds.0);
      evidence_turned = λ holds. some_differ (λ pair. is_for_first pair.0) _ _ refl refl holds.0;
      evidence_of_a_refused_vote = λ holds. some_differ (λ pair. is_for_first pair.0) _ _ refl refl holds.0;
      evidence_with_an_own_vote = λ holds. none_is_some _ (sym holds.0);
      evidence_lost = λ holds. none_is_some _ (holds.0 refl refl Finalization (finalize 1 1) refl refl);
      evidence_made_up = λ holds. false≢true (holds.0.0.both_cast.0 is_for_first refl);
    }
