-- What stays in the buffers at a construction.
use Rattle.batcher_histories.proofs.Words.{◌≡◌, Bool, true, false, cond, ◌||◌, nat_le, List, [], ◌∷◌, ◌++◌, length, Option, refl, ap, ◌∙◌, ◌&&◌, sym, filter}
use Rattle.batcher_histories.proofs.Words.{filter-append, filter_agree, append-nil, and-true, and_right, Vote, Certificate, Kind, Batch, ConstructCall}
use Rattle.batcher_histories.proofs.Words.{ConstructAnswer, Config, quorum_in, is_eligible, either_same, filter_twice, filter_none, first_only, of_kind}
use Rattle.batcher_histories.proofs.Words.{RoundState, is_skipped, History, selected_proposal, is_certified, is_restored, is_valid, eligible_among}
use Rattle.batcher_histories.proofs.Words.{left_verified, tries_kind, pending_after, verified_after}

-- two filters in either order
filter_swap : {X : Type 0} (p q : X → Bool) (xs : List X) → filter p (filter q xs)
    ≡ filter q (filter p xs)
filter_swap p q xs = filter_twice p q xs ∙ (filter_agree (λ v. q v && p v) (λ v. p v && q v) (λ v. and_comm (q v) (p v)) xs ∙ sym (filter_twice q p xs))
  where
    and_comm : (a b : Bool) → (a && b) ≡ (b && a)
    and_comm true b = sym (and-true b)
    and_comm false b = sym (and_right b false refl)

module _ {X : Type 0} (closed : Bool) (w : X → Bool) where
  -- those of a list that stay
  abbrev staying : List X → List X
  staying xs = cond closed [] (filter w xs)

  staying_append : (xs ys : List X) → staying (xs ++ ys) ≡ staying xs ++ staying ys
  staying_append xs ys =
      elim closed as (λ b. cond b [] (filter w (xs ++ ys)) ≡ cond b [] (filter w xs) ++ cond b [] (filter w ys)) [
        | true ↦ refl
        | false ↦ filter-append w xs ys
      ]

  staying_filter : (v : X → Bool) (xs : List X) → staying (filter v xs) ≡ filter v (staying xs)
  staying_filter v xs =
      elim closed as (λ b. cond b [] (filter w (filter v xs)) ≡ filter v (cond b [] (filter w xs))) [
        | true ↦ refl
        | false ↦ filter_swap w v xs
      ]

  staying_none : staying [] ≡ []
  staying_none = either_same closed []

  staying_part : (b : Bool) (xs : List X) → staying xs ≡ xs → staying (cond b [] xs) ≡ cond b [] xs
  staying_part true xs h = staying_none
  staying_part false xs h = h

  -- where two lists stay, so does the first with some of the second
  staying_left : (v : X → Bool) (b : Bool) (xs ys : List X) → staying xs ≡ xs → staying ys ≡ ys
      → staying (xs ++ filter v (cond b [] ys)) ≡ xs ++ filter v (cond b [] ys)
  staying_left v b xs ys h k =
      staying_append xs (filter v (cond b [] ys))
      ∙ (ap (λ zs. zs ++ staying (filter v (cond b [] ys))) h
      ∙ ap (λ zs. xs ++ zs) (staying_filter v (cond b [] ys) ∙ ap (filter v) (staying_part b ys k)))

module _ {D K G C : Type 0} (x : Config D K G C) where
  pub left_eligible : (past : History D K G C) (kind : Kind) (verified pending : List (Vote G D))
      → eligible_among x past kind verified ≡ verified → eligible_among x past kind pending
      ≡ pending
      →
      eligible_among x past kind (left_verified x verified pending)
      ≡ left_verified x verified pending
  left_eligible past kind verified pending h k =
      staying_left (is_certified past kind || is_skipped x.mode) (is_eligible x.same_digest (selected_proposal x past)) (is_valid x)
      (nat_le (quorum_in x) (length verified)) verified pending h k

  -- THE BUFFERS AFTER A CONSTRUCTION at which no vote is restored
  module _ (past : History D K G C) (old : RoundState G D) (answer : Option (Batch (Certificate C D)))
      (none_back : (v : Vote G D) → is_restored x past (ConstructCall, ConstructAnswer answer) v
      ≡ false) (kind : Kind) where
    pub pending_left : pending_after x past old (ConstructCall, ConstructAnswer answer) kind
        ≡ eligible_among x ((ConstructCall, ConstructAnswer answer) ∷ past) kind
        (cond (tries_kind x past (ConstructAnswer answer) kind) []
        (of_kind old.buffered.pending kind))
    pending_left =
        ap (eligible_among x ((ConstructCall, ConstructAnswer answer) ∷ past) kind)
        (first_only (cond (tries_kind x past (ConstructAnswer answer) kind) [] (of_kind old.buffered.pending kind)) _
        (filter_none (is_restored x past (ConstructCall, ConstructAnswer answer)) (of_kind old.tracked.kept kind) none_back))

    pub verified_left : verified_after x past old (ConstructCall, ConstructAnswer answer) kind
        ≡ eligible_among x ((ConstructCall, ConstructAnswer answer) ∷ past) kind
        (cond (tries_kind x past (ConstructAnswer answer) kind)
        (left_verified x (of_kind old.buffered.verified kind)
        (of_kind old.buffered.pending kind)) (of_kind old.buffered.verified kind))
    verified_left =
        ap (eligible_among x ((ConstructCall, ConstructAnswer answer) ∷ past) kind)
        (append-nil (cond (tries_kind x past (ConstructAnswer answer) kind)
        (left_verified x (of_kind old.buffered.verified kind) (of_kind old.buffered.pending kind)) (of_kind old.buffered.verified kind)))
