-- Steps that are done one after the other.
use Rattle.batcher_file.proofs.Words.{◌≡◌, ◌+◌, ◌<◌, ◌∙◌, ℕ, Bool, true, false, List, ◌∷◌, Some, Result, Ok, Err, ap, arith, drop, inl, inr, refl, slice_get}
use Rattle.batcher_file.proofs.Words.{IsTrue, OnErr, drop_more, get_or_from_slice_get, slice_get_within, CountsFault, AreBegun, AreDone, IsDone, IsFailed}
use Rattle.batcher_file.proofs.Words.{IsOneOn, Step}

rest_is : {X : Type 0} (all : List X) (n : ℕ) (x : X) → slice_get all n ≡ Some x
    → drop n all ≡ x ∷ drop (n + 1) all
rest_is all n x got =
    drop_more all n x (slice_get_within all n x got)
    ∙ ap (λ y. y ∷ drop (n + 1) all) (get_or_from_slice_get all n x x got)

-- a call that fails is counted
pub counted : {T E : Type 0} (result : Result T E) (old new : ℕ) → CountsFault result old new
    → OnErr result (0 < new)
counted (Ok x) old new it = tt
counted (Err e) old new it = omega (arith, it.0)

module _ {K : Type 0} (seen : K → List ℕ) (may_leave : K → List ℕ → Type 0)
    (is_usable is_clean is_mixing : K → Bool) (faults : K → ℕ) (frame : List ℕ)
    (all : List (Bool × Step)) (current other : K) where
  abbrev Begun : List (Bool × Step) → K → K → K → K → Type 0
  Begun = AreBegun seen may_leave is_usable is_clean is_mixing faults frame

  abbrev One : Step → K → K → Type 0
  One = IsDone seen may_leave is_usable is_clean is_mixing faults frame

  abbrev Failed : Step → K → K → Type 0
  Failed = IsFailed seen may_leave is_usable is_clean is_mixing faults frame

  abbrev Next : ℕ → K → K → Type 0
  Next n now now_other =
      IsOneOn seen may_leave is_usable is_clean is_mixing faults frame all n current other now now_other

  module _ (n : ℕ) (usable : IsTrue (is_usable current)) (other_usable : IsTrue (is_usable other))
      (step : Step) (after : K) where
    pub current_next : slice_get all n ≡ Some (false, step) → One step current after
        → Next n after other
    current_next got done = record {
      done = λ a b it. rw (rest_is all n (false, step) got) (after, done, it);
      begun = λ a b it. rw (rest_is all n (false, step) got) (inr (after, done, it));
      usable = done.usable;
      other_usable = other_usable;
    }

    pub other_next : slice_get all n ≡ Some (true, step) → One step other after
        → Next n current after
    other_next got done = record {
      done = λ a b it. rw (rest_is all n (true, step) got) (after, done, it);
      begun = λ a b it. rw (rest_is all n (true, step) got) (inr (after, done, it));
      usable = usable;
      other_usable = done.usable;
    }

    pub current_begun : slice_get all n ≡ Some (false, step) → Failed step current after
        → Begun (drop n all) current other after other
    current_begun got failed = rw (rest_is all n (false, step) got) (inl (failed, refl))

    pub other_begun : slice_get all n ≡ Some (true, step) → Failed step other after
        → Begun (drop n all) current other current after
    other_begun got failed = rw (rest_is all n (true, step) got) (inl (failed, refl))

-- a plan that is being carried out
module _ {K : Type 0} (seen : K → List ℕ) (may_leave : K → List ℕ → Type 0)
    (is_usable is_clean is_mixing : K → Bool) (faults : K → ℕ) (frame : List ℕ)
    (all : List (Bool × Step)) (current other : K) where
  -- What the steps from this number on come to, all come to from the start.
  pub record IsUnderWay (n : ℕ) (now now_other : K) : Type 0 where
    pub done : (a b : K)
        → AreDone seen may_leave is_usable is_clean is_mixing faults frame (drop n all) now
        now_other a b
        → AreDone seen may_leave is_usable is_clean is_mixing faults frame all current other a b
    pub begun : (a b : K)
        → AreBegun seen may_leave is_usable is_clean is_mixing faults frame (drop n all) now
        now_other a b
        → AreBegun seen may_leave is_usable is_clean is_mixing faults frame all current other a b
    pub usable : IsTrue (is_usable now)
    pub other_usable : IsTrue (is_usable now_other)
