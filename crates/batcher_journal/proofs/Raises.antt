-- A journal of which the floor was raised.
use Rattle.batcher_journal.proofs.Words.{◌≡◌, ◌⊎◌, ◌+◌, ◌<◌, ◌≤◌, ◌++◌, ◌∙◌, ℕ, zero, suc, Bool, true, false, not, cond, List, [], ◌∷◌, ap, arith, drop, get_or}
use Rattle.batcher_journal.proofs.Words.{inl, inr, length, refl, subst, sym, take, append-nil, get_or_default, take-append-drop, take_all, All-filter}
use Rattle.batcher_journal.proofs.Words.{filter_more, Format, MayBeWrittenBehind, IsFree, LeavesFree, from_floor, is_below, is_over, IsReady, first_of}
use Rattle.batcher_journal.proofs.Words.{IsTooLongFor}
use Rattle.batcher_journal.proofs.Words.{left_by_floor, raised, Contents, IsText, OwnerFields, subject_of, Vote, Round}
use Rattle.batcher_journal.proofs.Sorting.{all_of}
use Rattle.batcher_journal.proofs.Following.{followed}

module _ {G D : Type 0} (same : D → D → Bool) where
  one_follows : (floor : Round) (old : List (Vote G D)) (vote : Vote G D)
      → IsFree same old (subject_of vote)
      → is_over floor vote ≡ false → MayBeWrittenBehind same floor old (vote ∷ [])
  one_follows floor old vote free above zero other lt is = (
    rw (is, append-nil old) free,
    ap (λ v. is_over floor v) is ∙ above,
  )
  one_follows floor old vote free above (suc i) other lt is = absurd (omega arith)

  -- Votes that a floor leaves were each to be signed as those before it that are left were there.
  module _ (old new : Round) (votes : List (Vote G D)) (follows : MayBeWrittenBehind same old [] votes) where
    abbrev Left : ℕ → List (Vote G D)
    Left i = from_floor new (take i votes)

    step : (i : ℕ) → i < length votes → (vote : Vote G D) → vote ≡ get_or votes i vote
        → MayBeWrittenBehind same new [] (Left i) → (b : Bool) → is_over new vote ≡ b
        → MayBeWrittenBehind same new [] (Left i ++ cond (not b) (vote ∷ []) [])
    step i lt vote is so_far true over = subst (MayBeWrittenBehind same new []) (sym (append-nil (Left i))) so_far
    step i lt vote is so_far false above =
        let free : IsFree same (Left i) (subject_of vote) =
        All-filter (λ v. not (is_over new v)) (LeavesFree same (subject_of vote)) (take i votes) (follows i vote lt is).0 in
        followed same new (Left i) (vote ∷ []) so_far (one_follows new (Left i) vote free above)

    goes_on : (i : ℕ) → i < length votes → (vote : Vote G D) → vote ≡ get_or votes i vote
        → MayBeWrittenBehind same new [] (Left i) → MayBeWrittenBehind same new [] (Left (i + 1))
    goes_on i lt vote is so_far =
        let more : Left (i + 1) ≡ Left i ++ cond (not (is_over new vote)) (vote ∷ []) [] =
        filter_more (λ v. not (is_over new v)) votes i vote lt
        ∙ ap (λ v. Left i ++ cond (not (is_over new v)) (v ∷ []) []) (sym is) in
        subst (MayBeWrittenBehind same new []) (sym more) (step i lt vote is so_far (is_over new vote) refl)

    up_to : (default : Vote G D) (i : ℕ) → i ≤ length votes
        → MayBeWrittenBehind same new [] (Left i)
    up_to default zero le = λ j vote lt is. absurd (omega arith)
    up_to default (suc i) le =
        let lt : i < length votes = omega arith in
        let vote : Vote G D = get_or votes i default in
        let is : vote ≡ get_or votes i vote = get_or_default votes i default vote lt in
        let count : i + 1 ≡ suc i = omega arith in
        subst (λ n. MayBeWrittenBehind same new [] (Left n)) count (goes_on i lt vote is (up_to default i (omega arith)))

  pub left_follow : (old new : Round) (votes : List (Vote G D))
      → MayBeWrittenBehind same old [] votes
      → MayBeWrittenBehind same new [] (from_floor new votes)
  left_follow old new [] follows = λ j vote lt is. absurd (omega arith)
  left_follow old new (vote ∷ votes) follows =
      subst (λ vs. MayBeWrittenBehind same new [] (from_floor new vs))
      (take_all (length (vote ∷ votes)) (vote ∷ votes) (omega arith))
      (up_to old new (vote ∷ votes) follows vote (length (vote ∷ votes)) (omega arith))

module _ {G D L : Type 0} (f : Format (Vote G D)) (same : D → D → Bool) (is_settled : L → Type 0)
    (written : L → List ℕ) (log : L) (w : ℕ) (old : Contents G D)
    (ready : IsReady f same is_settled written log (first_of w old)) (owner : OwnerFields)
    (floor : Round) (finalization : List ℕ) (new : Contents G D)
    (new_is : new ≡ left_by_floor owner floor finalization old.votes old.certificates) where
  abbrev Raised : Contents G D
  Raised = raised (first_of w old) (drop w old.certificates) owner floor finalization

  -- what the floor leaves of all that is kept
  pub raised_is : new ≡ Raised
  raised_is =
      new_is ∙ ap (λ its. left_by_floor owner floor finalization old.votes its) (sym (take-append-drop w old.certificates))

  pub ready_raised : (after : L) (bytes : List ℕ) (n : ℕ) → n ≡ length new.certificates
      → IsText f bytes new → is_settled after → written after ≡ bytes
      → IsReady f same is_settled written after (first_of n new)
  ready_raised after bytes n n_is text settled is =
      subst (IsReady f same is_settled written after) (sym (all_of n new n_is)) (record {
        settled = settled;
        text = subst (λ t. IsText f t new) (sym is) text;
        followed = subst (λ it. MayBeWrittenBehind same it.floor [] it.votes) (sym new_is)
            (left_follow same old.floor floor old.votes ready.followed);
      })

  pub raise_leaves : (left bytes : List ℕ) → is_below old.floor floor ≡ false → IsText f bytes new
      → (left ≡ written log) ⊎ (left ≡ bytes)
      → IsText f left (first_of w old) ⊎ ((is_below old.floor floor ≡ false) × IsText f left Raised)
  raise_leaves left bytes up text (inl is) =
      inl (subst (λ t. IsText f t (first_of w old)) (sym is) ready.text)
  raise_leaves left bytes up text (inr is) =
      inr (up, subst (λ t. IsText f t Raised) (sym is) (subst (IsText f bytes) raised_is text))

  -- the bytes of that don't fit in
  pub too_long : (is_too_small : L → List ℕ → Type 0) (bytes : List ℕ) → IsText f bytes new
      → is_too_small log bytes → IsTooLongFor f is_too_small log Raised
  too_long is_too_small bytes text small =
      record { text = bytes; is_text = subst (IsText f bytes) raised_is text; too_small = small }
