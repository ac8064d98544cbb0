-- The examples of honest participants and of floods, computed.
use Rattle.batcher_histories.proofs.Words.{◌==◌, nat_lt, [], ◌∷◌, map, refl, arith, list_all, and_parts, ltb-true, false≢true, list_all-from_AllPass, IsLawful}
use Rattle.batcher_histories.proofs.Words.{Nullification, Retaining, is_some_and, is_for, ready_kind, sent_bad_vote, is_good, four, p, notarize, nullify}
use Rattle.batcher_histories.proofs.Words.{participant, undiscerning, played_nullifies, HonestExamples}
use Rattle.batcher_types.specs.Keys.{index_of}
use Rattle.batcher_histories.proofs.Examples.Answers.{given_is_good}

lawful : IsLawful undiscerning.meaning
lawful =
    record {
      signers_in_range = λ subject a h. ltb-true a.signer.0 4 (and_parts (nat_lt a.signer.0 4) (is_good a) h).0;
      optimistic_certifies = λ subject pending verified stream c may e. given_is_good (list_all is_good pending) c e;
      optimistic_gives =
          λ subject pending verified stream may all.
          rw (list_all-from_AllPass is_good pending (λ k d below. (and_parts _ _ (all k d below)).1)) refl;
      assembled_certifies = λ subject prior fresh some quorum pass. refl;
    }

pub honest_computed : HonestExamples
unfolding index_of
honest_computed =
    record {
      repeat_is_refused = refl;
      repeat_gives_no_cause = refl;
      other_is_blocked = refl;
      other_gives_cause = refl;
      foreign_is_blocked = refl;
      foreign_gives_cause = refl;
      naming_batches = refl;
      named_once = refl;
      named_for_two_kinds = refl;
      not_named = refl;
      honest_quorum = refl;
      one_gave_cause = refl;
      one_for_another = refl;
      one_voted_badly = refl;
      skipped_quorum = refl;
      incomplete_after_two = refl;
      complete_after_three = refl;
      undiscerning_is_lawful = lawful;
      good_vote_after_bad = refl;
      incomplete_after_bad = refl;
      left_out_is_refused = λ taken. false≢true (taken.0 refl refl);
      good_one_is_not_named = λ named.
          false≢true
          (list_all-from_AllPass
          (λ i. is_some_and (ready_kind (four Retaining) played_nullifies) (λ kind. sent_bad_vote (four Retaining) played_nullifies kind i.0))
          (map participant (1 ∷ []))
          named.0);
      left_incomplete_is_refused = λ completes. false≢true (completes.0 refl refl Nullification (omega arith));
      named_twice = refl;
      other_of_skipped = refl;
      added_of_skipped = refl;
      other_after_release = refl;
      added_after_release = refl;
      nullify_signed_anew = refl;
      added_signed_anew = refl;
      added_once = refl;
      both_sent_give_cause = refl;
      both_sent_is_refused = λ sends. false≢true ((sends.0 refl).1 (is_for (λ a b. a == b) (p 2)) refl);
      both_added_is_refused = λ agree. absurd (omega (arith, agree (notarize 1 1)));
      finalize_after_nullify_is_refused = λ agree. absurd (omega (arith, agree (nullify 1)));
      added_thrice = refl;
      given_thrice = refl;
      processed_thrice = refl;
      costs_of_one = refl;
      costs_of_four = refl;
      costs_again = refl;
      costs_of_own = refl;
      constructions_of_one = refl;
      endless_is_refused = λ few.
          absurd (omega (arith, few ((λ h. refl), ((λ h. refl), ((λ h. refl), ((λ h. absurd (false≢true h)), tt))))));
      costs_against_law = refl;
    }
