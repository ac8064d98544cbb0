-- No participant has both a first nullify and a first finalize.
use Rattle.batcher_histories.proofs.Words.{◌≡◌, ℕ, Bool, true, false, ◌&&◌, ◌||◌, List, [], ◌∷◌, ◌++◌, refl, ap, sym, ◌∙◌, ⊎_elim, eqb, subst, is_some}
use Rattle.batcher_histories.proofs.Words.{list_any, or_from, and_left, and_parts, and_from, or_right, not-true, true≢false, false_from_ne_true, eqb-true}
use Rattle.batcher_histories.proofs.Words.{eq-eqb, Vote, Kind, Nullification, Finalization, Config, is_kind, kind_of, signer_of, is_vote_of, are_opposite}
use Rattle.batcher_histories.proofs.Words.{excludes, any_more, is_kind-true, History, first_votes, first_vote, is_free}
use Rattle.batcher_histories.proofs.History.Distinct.{any_is_found, new_votes, new_cases}

-- a vote of one of two sorts beside others of which one sort is missing
still_apart : (n f a b : Bool) → (n ≡ true → f ≡ false) → (n ≡ true → b ≡ false)
    → (f ≡ true → a ≡ false) → (a && b) ≡ false → ((n || a) && (f || b)) ≡ false
still_apart true f a b other none before apart = or_from f b (other refl) (none refl)
still_apart false true a b other none before apart = and_left a true (before refl)
still_apart false false a b other none before apart = apart

module _ {G D : Type 0} where
  one_kind : (w : Vote G D) (i : ℕ) → is_vote_of Nullification i w ≡ true
      → is_vote_of Finalization i w ≡ false
  one_kind w i h =
      let is : kind_of w ≡ Nullification = is_kind-true (kind_of w) Nullification (and_parts _ _ h).0 in ap (λ k. is_kind k Finalization && eqb (signer_of w) i)
      is

  -- a vote of opposite kind and the same signer excludes
  opposite_excludes : (a b : Kind) (i : ℕ) (v w : Vote G D) → are_opposite a b ≡ true
      → is_vote_of a i v ≡ true → is_vote_of b i w ≡ true → excludes v w ≡ true
  opposite_excludes a b i v w opposite of_a of_b =
      let ka : kind_of v ≡ a = is_kind-true (kind_of v) a (and_parts _ _ of_a).0 in
      let kb : kind_of w ≡ b = is_kind-true (kind_of w) b (and_parts _ _ of_b).0 in
      let same : signer_of v ≡ signer_of w = eqb-true _ _ (and_parts _ _ of_a).1 ∙ sym (eqb-true _ _ (and_parts _ _ of_b).1) in
      and_from _ _ (eq-eqb _ _ same) (or_right _ _ (ap (λ k. are_opposite k (kind_of w)) ka ∙ (ap (are_opposite a) kb ∙ opposite)))

  none_opposite : (a b : Kind) (i : ℕ) (votes : List (Vote G D)) (w : Vote G D) → are_opposite a b
      ≡ true → is_free votes w ≡ true → is_vote_of b i w ≡ true → list_any (is_vote_of a i) votes
      ≡ false
  none_opposite a b i votes w opposite free of_b =
      false_from_ne_true _
      (λ some. true≢false (sym (any_more (is_vote_of a i) (λ v. excludes v w) (λ v of_a. opposite_excludes a b i v w opposite of_a of_b) votes some)
      ∙ not-true (list_any (λ v. excludes v w) votes) free))

module _ {D K G C : Type 0} (x : Config D K G C) where
  apart_lists : (past : History D K G C) (i : ℕ)
      → (list_any (is_vote_of Nullification i) (first_votes x past)
      && list_any (is_vote_of Finalization i) (first_votes x past)) ≡ false
  apart_lists [] i = refl
  apart_lists (event ∷ past) i =
      ⊎_elim
      (λ none. subst (λ (votes : List (Vote G D)). (list_any (is_vote_of Nullification i) votes && list_any (is_vote_of Finalization i) votes) ≡ false)
      (sym (ap (λ (new : List (Vote G D)). new ++ first_votes x past) none)) (apart_lists past i))
      (λ (one : (w : Vote G D) × (new_votes x past event ≡ w ∷ []) × (is_free (first_votes x past) w ≡ true)).
      subst (λ (votes : List (Vote G D)). (list_any (is_vote_of Nullification i) votes && list_any (is_vote_of Finalization i) votes) ≡ false)
      (sym (ap (λ (new : List (Vote G D)). new ++ first_votes x past) one.1))
      (still_apart (is_vote_of Nullification i one.0) (is_vote_of Finalization i one.0) _ _ (one_kind one.0 i)
      (none_opposite Finalization Nullification i (first_votes x past) one.0 refl one.2)
      (none_opposite Nullification Finalization i (first_votes x past) one.0 refl one.2) (apart_lists past i)))
      (new_cases x past event)

  pub never_both : (past : History D K G C) (i : ℕ)
      → (is_some (first_vote x past Nullification i) && is_some (first_vote x past Finalization i))
      ≡ false
  never_both past i =
      ap (λ b. b && is_some (first_vote x past Finalization i)) (sym (any_is_found (first_votes x past) Nullification i))
      ∙ (ap (λ b. list_any (is_vote_of Nullification i) (first_votes x past) && b) (sym (any_is_found (first_votes x past) Finalization i))
      ∙ apart_lists past i)
