-- Participants without a block, one more index at a time.
use Rattle.batcher_histories.proofs.Words.{◌≡◌, ◌∙◌, ◌+◌, ◌++◌, ◌∷◌, [], ℕ, Bool, true, false, not, cond, List, subst, sym, ap, arith, append-nil}
use Rattle.batcher_histories.proofs.Words.{filter_of_map_range_with_len_more, Participant, Proposal, participant, RoundState, has_block_held, missing_in}

module _ {G D : Type 0} (same : D → D → Bool) (held : RoundState G D) (p : Proposal D) where
  missing_more : (n : ℕ) → missing_in same held p (n + 1) ≡ missing_in same held p n
      ++ cond (not (has_block_held same held n p)) (participant n ∷ []) []
  missing_more n = filter_of_map_range_with_len_more (λ i. not (has_block_held same held i.0 p)) participant 0 n n (omega arith)

  missing_at : (n : ℕ) (i : Participant) → i.0 ≡ n → missing_in same held p (n + 1)
      ≡ missing_in same held p n ++ cond (not (has_block_held same held i.0 p)) (i ∷ []) []
  missing_at n i is =
      subst (λ k. missing_in same held p (n + 1) ≡ missing_in same held p n ++ cond (not (has_block_held same held k p)) (participant k ∷ []) []) (sym is)
      (missing_more n)

  pub missing_one : (n : ℕ) (i : Participant) (xs : List Participant) → i.0 ≡ n
      → not (has_block_held same held i.0 p) ≡ true → xs ≡ missing_in same held p n → xs ++ i ∷ []
      ≡ missing_in same held p (n + 1)
  missing_one n i xs is there before =
      ap (λ ys. ys ++ i ∷ []) before ∙ sym (missing_at n i is ∙ ap (λ b. missing_in same held p n ++ cond b (i ∷ []) []) there)

  pub missing_none : (n : ℕ) (i : Participant) (xs : List Participant) → i.0 ≡ n
      → not (has_block_held same held i.0 p) ≡ false → xs ≡ missing_in same held p n → xs
      ≡ missing_in same held p (n + 1)
  missing_none n i xs is there before =
      before ∙ sym (missing_at n i is ∙ ap (λ b. missing_in same held p n ++ cond b (i ∷ []) []) there ∙ append-nil (missing_in same held p n))
