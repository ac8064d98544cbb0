-- The examples are computed, and each wrong history breaks the clause that it is stated of.
use Rattle.batcher_histories.proofs.Words.{inl, inr, ◌≡◌, true, None, List, [], ◌∷◌, map, ◌≤◌, ◌==◌, ℕ, nat_lt, refl, ap, sym, arith, and_parts, ltb-true}
use Rattle.batcher_histories.proofs.Words.{true≢false, false≢true, same_Some, list_all, list_all-from_AllPass, AllPass-from_list_all, first_votes, is_valid}
use Rattle.batcher_histories.proofs.Words.{ready_kind, proven_votes, has_bad_vote, HasNoBadVote, Notarization, Nullification, participant, IsLawful}
use Rattle.batcher_histories.proofs.Words.{is_some_and, signer_of, same_proposal, proposal_of, votes_behind, TinyCall, is_good, p, construct, batch}
use Rattle.batcher_histories.proofs.Words.{notarization, finalization, played, hopeful, tiny, three_notarizes, one_bad, with_outsider, CertificateExamples}
use Rattle.batcher_types.specs.Keys.{index_of}

lawful : IsLawful hopeful
lawful =
    record {
      signers_in_range = λ subject a h. ltb-true a.signer.0 4 (and_parts (nat_lt a.signer.0 4) (is_good a) h).0;
      optimistic_certifies = λ subject pending verified stream c may e. ap (λ (k : ℕ). k == 0) (sym (same_Some 0 c e));
      optimistic_gives = λ subject pending verified stream may all. refl;
      assembled_certifies = λ subject prior fresh some quorum pass. refl;
    }

good_votes :
    (calls : List TinyCall)
    → list_all (is_valid tiny) (first_votes tiny (played tiny calls)) ≡ true
    → HasNoBadVote tiny (played tiny calls)
good_votes calls = AllPass-from_list_all (is_valid tiny) (first_votes tiny (played tiny calls))

pub computed : CertificateExamples
unfolding index_of
computed =
    record {
      behind_a_quorum = refl;
      none_behind = refl;
      two_behind = refl;
      two_are_refused = λ backed. let few : 3 ≤ 2 = backed.0.enough in absurd (omega arith);
      outsider_behind = refl;
      outsider_is_refused = λ backed.
          false≢true
          (list_all-from_AllPass (λ v. nat_lt (signer_of v) 4) (votes_behind tiny (played tiny with_outsider) (notarization 1))
          backed.0.participants);
      bad_behind = refl;
      bad_is_refused = λ backed. let few : 3 ≤ 2 = backed.0.attested refl in absurd (omega arith);
      hopeful_is_lawful = lawful;
      given_over_bad_votes = refl;
      given_all_the_same = refl;
      recorded_is_refused = λ once. true≢false once.0;
      second_is_refused = λ once. true≢false once.0;
      two_of_a_kind = refl;
      unfixed_is_refused = λ fixed.
          true≢false (ap (λ s. is_some_and (proposal_of s) (same_proposal tiny.same_digest (p 1))) fixed.0);
      unselected_is_refused = λ selected.
          true≢false (ap (λ s. is_some_and s (same_proposal tiny.same_digest (p 1))) selected.0);
      which_contradict = refl;
      both_given = refl;
      contradiction_is_refused = λ none. true≢false (none (notarization 2) (notarization 1) (inr (inl refl)) (inl refl));
      two_proposals_are_refused = λ all. false≢true (all (finalization 2) (notarization 1) (inr (inl refl)) (inl refl));
      both_certified = refl;
      two_due = refl;
      two_given = refl;
      second_gives = refl;
      third_gives = refl;
      none_due_before = refl;
      one_due_after = refl;
      two_given_unselected = refl;
      bad_beside_a_quorum = refl;
      given_beside_it = refl;
      bad_in_its_place = refl;
      none_given_beside_it = refl;
      late_is_refused = λ at_once. false≢true (at_once.0 (refl, good_votes three_notarizes refl)).0;
      left_due_is_refused = λ one. false≢true (one.0 (refl, good_votes three_notarizes refl) refl).0;
      held_back_is_refused = λ given. false≢true (given.0 Notarization refl (omega arith));
      batch_before_the_quorum = refl;
      quorum_left_is_refused = λ none. true≢false (none.0 Nullification);
      honest_quorum_left_is_refused = λ none. false≢true (none.0 refl Nullification (omega arith));
      good_one_is_not_named = λ named.
          false≢true
          (list_all-from_AllPass
          (λ i.
          is_some_and
          (ready_kind tiny (played tiny three_notarizes))
          (λ kind. has_bad_vote tiny (played tiny three_notarizes) kind i))
          (map participant (2 ∷ []))
          named.0);
      bad_one_is_not_proven = λ holds.
          false≢true
          (list_all-from_AllPass
          (is_valid tiny)
          (proven_votes tiny ((construct, batch 3 [] None true) ∷ played tiny one_bad) Notarization)
          (holds.0.proven_votes_attest Notarization));
      quorum_for_another = refl;
      certified_by_three = refl;
      none_by_three = refl;
      unsettled = refl;
      by_bad_votes = refl;
      of_nobody = refl;
      leader_named_first = refl;
      leader_named_last = refl;
      network_first = refl;
      own_first = refl;
      one_then_two = refl;
      two_then_one = refl;
      construction_first = refl;
      certificate_first = refl;
      reported_though_bad = refl;
      shielded = refl;
    }
