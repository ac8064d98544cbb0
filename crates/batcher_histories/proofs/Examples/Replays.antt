-- The examples of runs that go alike, and of pairs, computed.
use Rattle.batcher_histories.proofs.Words.{◌≡◌, ℕ, Bool, [], Option, refl, ap, sym, ◌∙◌, eqb, arith, true≢false, false≢true, Stream, Participant, Retaining}
use Rattle.batcher_histories.proofs.Words.{sender_in, is_some_and, RoundState, TellsNoKeysApart, four, no_words, ReplayExamples, new_round}
use Rattle.batcher_types.specs.Keys.{index_of}

-- whether the key is 2's
is_second : ℕ → Bool
is_second key = is_some_and (sender_in (four Retaining) key) (λ i. eqb i.0 2)

second_is_one : TellsNoKeysApart (four Retaining) is_second
unfolding is_second
second_is_one a b i at_a at_b =
    ap (λ (o : Option Participant). is_some_and o (λ j. eqb j.0 2)) (at_a ∙ sym at_b)

forwarded : RoundState ℕ ℕ → Bool
forwarded held = held.forwarded

first_word : Stream → ℕ
first_word stream = stream.u32_after []

pub replay_computed : ReplayExamples
unfolding index_of is_second forwarded first_word
replay_computed =
    record {
      with_memory = (new_round, (no_words, ((refl, (refl, refl)), (refl, refl))));
      without_memory = (new_round, (no_words, ((refl, refl), (refl, refl))));
      drawn_from_zeros = refl;
      drawn_from_ones = refl;
      asked_for_one = refl;
      asked_for_two = refl;
      other_answers_are_refused = λ h. let same = h.answered_alike 1 refl refl refl in absurd (cc);
      other_first_answers_are_refused = λ h.
          let same = h.first_answers 1 refl refl refl in absurd (cc);
      other_round_is_refused = λ h. false≢true (ap forwarded (h.left_alike refl refl refl).1.0);
      other_stream_is_refused = λ h.
          let same : 0 ≡ 1 = ap first_word (h.left_alike refl refl refl).1.1 in absurd (omega arith);
      own_votes_retained = refl;
      own_votes_released = refl;
      own_vote_of_one_is_refused = λ h. true≢false h.0;
      blocked_by_retaining = refl;
      blocked_by_releasing = refl;
      other_block_is_refused = λ h. false≢true (h is_second second_is_one refl);
      missing_of_retaining = refl;
      missing_of_releasing = refl;
      other_missing_is_refused = λ h. false≢true (h.missing_in_both.0 refl 0 refl);
    }
