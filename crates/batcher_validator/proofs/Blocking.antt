-- Who was given to be blocked.
use Rattle.batcher_validator.proofs.Words.{◌≡◌, ◌⊎◌, ◌<◌, ◌∙◌, ℕ, zero, suc, Bool, true, false, List, [], ◌∷◌, Option, Some, None, ap, arith, cond, inl, inr}
use Rattle.batcher_validator.proofs.Words.{length, refl, set, subst, sym, slice_get, option_map, is_some, Admission, BlockReason, Vote, Participant, cause_by}
use Rattle.batcher_validator.proofs.Words.{is_peer, vote_came, NodeConfig, Cause, ForVote, Receipt, Answered, Dropped, Outside, Unknown, AreBlocked}
use Rattle.batcher_validator.proofs.Words.{blocks_sender, HasBlocked, ValidatorHistory, gave, Block}

module _ {X : Type 0} where
  pub get_set_same : (xs : List X) (i : ℕ) (x : X) → i < length xs
      → slice_get (set xs i x) i ≡ Some x
  get_set_same [] i x lt = absurd (omega arith)
  get_set_same (y ∷ xs) zero x lt = refl
  get_set_same (y ∷ xs) (suc i) x lt = get_set_same xs i x (omega arith)

  pub get_set_other : (xs : List X) (i j : ℕ) (x : X) → (i ≡ j → ⊥)
      → slice_get (set xs i x) j ≡ slice_get xs j
  get_set_other [] i j x differ = refl
  get_set_other (y ∷ xs) zero zero x differ = absurd (differ refl)
  get_set_other (y ∷ xs) zero (suc j) x differ = refl
  get_set_other (y ∷ xs) (suc i) zero x differ = refl
  get_set_other (y ∷ xs) (suc i) (suc j) x differ = get_set_other xs i j x (λ e. differ (ap suc e))

module _ {D K G C : Type 0} (past : ValidatorHistory D K G C) (blocked : List Bool)
    (are : AreBlocked (λ i. HasBlocked past i) blocked) (who : Participant) (cause : Cause) where
  pub not_blocked : slice_get blocked who.0 ≡ Some false → HasBlocked past who.0 → ⊥
  not_blocked there has =
      let yes : slice_get blocked who.0 ≡ Some true = are.no_others who.0 has in
      absurd cc

  pub blocks_one : who.0 < length blocked
      → AreBlocked (λ i. HasBlocked (gave (Block who cause) ∷ past) i) (set blocked who.0 true)
  blocks_one lt =
      record {
        were_blocked = λ i there. of_eq i there (decide who.0 i);
        no_others = λ i has. of_has i has;
      }
    where
      decide : (a b : ℕ) → (a ≡ b) ⊎ (a ≡ b → ⊥)
      decide zero zero = inl refl
      decide zero (suc b) = inr (λ e. absurd (omega (arith, e)))
      decide (suc a) zero = inr (λ e. absurd (omega (arith, e)))
      decide (suc a) (suc b) = elim (decide a b) [
        | inl e ↦ inl (ap suc e)
        | inr differ ↦ inr (λ e. differ (omega (arith, e)))
      ]

      of_eq : (i : ℕ) → slice_get (set blocked who.0 true) i ≡ Some true
          → (who.0 ≡ i) ⊎ (who.0 ≡ i → ⊥)
          → HasBlocked (gave (Block who cause) ∷ past) i
      of_eq i there (inl same) = inl same
      of_eq i there (inr differ) = inr (are.were_blocked i (sym (get_set_other blocked who.0 i true differ) ∙ there))

      of_old : (i : ℕ) → slice_get blocked i ≡ Some true → (who.0 ≡ i) ⊎ (who.0 ≡ i → ⊥)
          → slice_get (set blocked who.0 true) i ≡ Some true
      of_old i there (inl same) = subst (λ j. slice_get (set blocked who.0 true) j ≡ Some true) same (get_set_same blocked who.0 true lt)
      of_old i there (inr differ) = get_set_other blocked who.0 i true differ ∙ there

      of_has : (i : ℕ) → HasBlocked (gave (Block who cause) ∷ past) i
          → slice_get (set blocked who.0 true) i ≡ Some true
      of_has i (inl same) = subst (λ j. slice_get (set blocked who.0 true) j ≡ Some true) same (get_set_same blocked who.0 true lt)
      of_has i (inr before) = of_old i (are.no_others i before) (decide who.0 i)

-- A vote blocks nobody, whose sender isn't blocked for it.
module _ {D K G C : Type 0} (x : NodeConfig D K G C) where
  none_by : (o : Option BlockReason) → is_some o ≡ false → (b : Bool)
      → cond b (option_map ForVote o) None ≡ None
  none_by None e true = refl
  none_by None e false = refl
  none_by (Some reason) e b = absurd cc

  pub vote_blocks_nobody :
      (peer : K) (vote : Vote G D) (receipt : Receipt (Admission G D))
      → blocks_sender receipt ≡ false
      → (i : ℕ) → cause_by {C = C} x (vote_came peer vote receipt) i ≡ None
  vote_blocks_nobody peer vote (Answered admission) e i =
      none_by admission.block e (is_peer x peer i)
  vote_blocks_nobody peer vote Outside e i = refl
  vote_blocks_nobody peer vote Dropped e i = refl
  vote_blocks_nobody peer vote Unknown e i = refl
