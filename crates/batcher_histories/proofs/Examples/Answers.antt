-- The worked examples, computed.
use Rattle.batcher_histories.proofs.Words.{◌≡◌, ◌==◌, ℕ, Bool, true, false, cond, ◌&&◌, List, [], ◌∷◌, Some, None, is_some, nat_lt, refl, ap, sym, arith}
use Rattle.batcher_histories.proofs.Words.{AllPass, list_all, and_from, and_parts, eqb-true, eq-eqb, ltb-true, false≢true, All-head, All-tail, same_Some}
use Rattle.batcher_histories.proofs.Words.{Attestation, Mode, Retaining, Skipped, IsLawful, history, is_some_and, same_proposal, HoldsThroughout}
use Rattle.batcher_histories.proofs.Words.{WorkedExamples, is_good, listing, four, p, net, nullify, refused, changed_calls, changed_answers, repeated_calls}
use Rattle.batcher_histories.proofs.Words.{repeated_answers}
use Rattle.batcher_histories.proofs.History.Laws.{HasLaws}
use Rattle.batcher_histories.proofs.AnswerFacts.ByDefinition.{follows_by_definition}
use Rattle.batcher_types.specs.Keys.{index_of}

none_added : {X : Type 0} {v : X} → [] ≡ v ∷ [] → ⊥
none_added h = absurd (cc)

-- THE TINY SCHEME IS LAWFUL
pub given_is_good : (all : Bool) (c : ℕ) → cond all (Some 0) None ≡ Some c → (c == 0) ≡ true
given_is_good true c e = ap (λ (k : ℕ). k == 0) (sym (same_Some 0 c e))
given_is_good false c e = absurd (cc)

given : {X : Type 0} (v : X) (all : Bool) → all ≡ true → is_some (cond all (Some v) None) ≡ true
given v true h = refl
given v false h = absurd (false≢true h)

all_good : (pending : List (Attestation ℕ)) (n : ℕ)
    → AllPass (λ a. nat_lt a.signer.0 n && is_good a) pending → list_all is_good pending ≡ true
all_good [] n all = refl
all_good (a ∷ pending) n all =
    and_from _ _ (and_parts (nat_lt a.signer.0 n) (is_good a) (All-head (λ b. (nat_lt b.signer.0 n && is_good b) ≡ true) a pending all)).1
    (all_good pending n (All-tail (λ b. (nat_lt b.signer.0 n && is_good b) ≡ true) a pending all))

listing_laws : IsLawful (listing 4)
listing_laws =
    record {
      signers_in_range = λ subject a h. ltb-true a.signer.0 4 (and_parts (nat_lt a.signer.0 4) (is_good a) h).0;
      optimistic_certifies = λ subject pending verified stream c may e. given_is_good (list_all is_good pending) c e;
      optimistic_gives = λ subject pending verified stream may all.
          given 0 (list_all is_good pending) (all_good pending 4 all);
      assembled_certifies = λ subject prior fresh some quorum pass. refl;
    }

laws_of_four : (mode : Mode) → HasLaws (four mode)
laws_of_four mode =
    record {
      scheme = listing_laws;
      some_participant = omega arith;
      digests_equal = λ a b h. eqb-true a b h;
      digests_same = λ a. eq-eqb a a refl;
    }

pub worked : WorkedExamples
unfolding index_of
worked =
    record {
      conflict_in_a_retaining_round = refl;
      conflict_in_a_skipped_round = refl;
      conflict_in_a_releasing_round = refl;
      finalizes_are_restored = refl;
      alone = refl;
      alone_it_is_fixed = refl;
      bad_vote_in_a_quorum = refl;
      own_finalize_twice = refl;
      own_finalize_twice_fixes_nothing = refl;
      own_vote_after_release = refl;
      mixed_proposals = refl;
      mixed_proposals_wait = refl;
      mixed_proposals_are_filtered = refl;
      finalization_fixes = refl;
      leader_named_late = refl;
      own_finalize = refl;
      own_finalize_eligible = refl;
      nullified = refl;
      skipped = refl;
      whole = refl;
      own_notarizes_are_restored = refl;
      own_votes_apart = refl;
      second_leader = refl;
      memory = refl;
      memory_for_restored_votes = refl;
      memory_after_a_release = refl;
      memory_for_a_batch = refl;
      votes_are_restored_in_order = refl;
      batch_leaves_the_good_ones = refl;
      innocent = refl;
      contradictions_give_cause = refl;
      counted = refl;
      none_counted = refl;
      third_construction = refl;
      work_of_a_round = refl;
      work_of_own_votes = refl;
      replaced_and_forwarded_once = refl;
      usable_after_a_bad_vote = refl;
      facts_tell_nothing = refl;
      blocked_by_one = refl;
      changed_follows = follows_by_definition (four Retaining) (laws_of_four Retaining) (history changed_calls changed_answers);
      changed_is_refused = λ h. h.1.0 (p 1) refl refl;
      other_forward_is_refused = λ h. false≢true (ap (λ s. is_some_and s (same_proposal (λ a b. a == b) (p 2))) h.0);
      repeated_follows = follows_by_definition (four Skipped) (laws_of_four Skipped) (history repeated_calls repeated_answers);
      repeated_is_refused = λ h. false≢true h.1.1.0.1;
      repeated_block_is_refused = λ h. false≢true h.0.1;
      unadded_is_refused = λ (h : HoldsThroughout (four Retaining) ((net 1 (nullify 1), refused) ∷ [])). absurd (none_added h.added_are_first);
    }
