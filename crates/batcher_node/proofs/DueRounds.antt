-- Views that changed, listed in a heap beside the map of rounds.
use Rattle.batcher_node.proofs.Words.{◌≡◌, ◌≢◌, ◌<◌, ◌≤◌, ◌+◌, ◌==◌, ◌&&◌, not, ℕ, Bool, true, false, cond, nat_lt, List, [], ◌∷◌, Option, Some, None, length}
use Rattle.batcher_node.proofs.Words.{refl, ap, sym, ◌∙◌, subst, arith, add-one, IfSome, nat_cmp, is_eq, Less, Equal, Greater, Ordering, exact_unsigned, is_at}
use Rattle.batcher_node.proofs.Words.{Reverse, true≢false, eqb-true, none-some, nat_tests, Slot, times, ListsChanged, times_due, slot_at, HasChanged, IsNext}

itself : (n : ℕ) (b : Bool) → (n == n) ≡ b → b ≡ true
itself n true e = refl
itself n false e = absurd (grind (arith, nat_tests, e))

is_this : (x y : ℕ) (o : Ordering) → nat_cmp x y ≡ o → is_eq o ≡ true → x ≡ y
is_this x y Equal e is = exact_unsigned x y e
is_this x y Less e is = absurd (true≢false (sym is))
is_this x y Greater e is = absurd (true≢false (sym is))

module _ {X : Type 0} where
  -- how often a key is among entries
  abbrev key_times : List (ℕ × X) → ℕ → ℕ
  key_times [] view = 0
  key_times (e ∷ es) view = cond (e.0 == view) 1 0 + key_times es view

  -- the entries without the first of a key
  abbrev without : ℕ → List (ℕ × X) → List (ℕ × X)
  without view [] = []
  without view (e ∷ es) = cond (e.0 == view) es (e ∷ without view es)

  one_less : (es : List (ℕ × X)) (view : ℕ) → 1 ≤ key_times es view
      → length es ≡ length (without view es) + 1
  one_less [] view some = absurd (omega (arith, some))
  one_less (e ∷ es) view some =
      by_key (e.0 == view) refl (λ there. one_less es view there) some where
        by_key : (b : Bool) → (e.0 == view) ≡ b
            → (1 ≤ key_times es view → length es ≡ length (without view es) + 1)
            → 1 ≤ cond b 1 0 + key_times es view
            → length (e ∷ es) ≡ length (cond b es (e ∷ without view es)) + 1
        by_key true is rest some = sym (add-one (length es))
        by_key false is rest some =
            let more = rest (omega (arith, some)) in
            omega (arith, more)

  times_left : (es : List (ℕ × X)) (view other : ℕ) → 1 ≤ key_times es view
      → key_times es other ≡ cond (view == other) 1 0 + key_times (without view es) other
  times_left [] view other some = absurd (omega (arith, some))
  times_left (e ∷ es) view other some =
      by_key (e.0 == view) refl (λ there. times_left es view other there) some where
        by_key : (b : Bool) → (e.0 == view) ≡ b
            → (1 ≤ key_times es view → key_times es other
            ≡ cond (view == other) 1 0 + key_times (without view es) other)
            → 1 ≤ cond b 1 0 + key_times es view
            → cond (e.0 == other) 1 0 + key_times es other
            ≡ cond (view == other) 1 0 + key_times (cond b es (e ∷ without view es)) other
        by_key true is rest some =
            let same : e.0 ≡ view = eqb-true e.0 view is in
            ap (λ k. cond (k == other) 1 0 + key_times es other) same
        by_key false is rest some =
            let more = rest (omega (arith, some)) in
            omega (arith, more)

  -- what is listed as often as keys are there at most is as long as these at most
  no_longer : (views : List (Reverse ℕ)) (es : List (ℕ × X))
      → ((view : ℕ) → times views view ≤ key_times es view) → length views ≤ length es
  no_longer [] es within = omega arith
  no_longer (v ∷ views) es within =
      let here : cond (v.0 == v.0) 1 0 + times views v.0 ≤ key_times es v.0 = within v.0 in
      let there : 1 ≤ key_times es v.0 = some_there v.0 (times views v.0) (key_times es v.0) here in
      let rest = no_longer views (without v.0 es) (λ view.
      left_within (cond (v.0 == view) 1 0) (times views view) (key_times es view)
      (key_times (without v.0 es) view) (within view) (times_left es v.0 view there)) in
      let less = one_less es v.0 there in
      omega (arith, rest, less) where
        some_there : (n more keys : ℕ) → cond (n == n) 1 0 + more ≤ keys → 1 ≤ keys
        some_there n more keys h =
            let same : (n == n) ≡ true = itself n (n == n) refl in
            let h : 1 + more ≤ keys = rw same at h in omega (arith, h)

        left_within : (one more keys left : ℕ) → one + more ≤ keys → keys ≡ one + left
            → more ≤ left
        left_within one more keys left h is = omega (arith, h, is)

  is_there : (es : List (ℕ × X)) (view : ℕ) (x : X) → slot_at es view ≡ Some x
      → 1 ≤ key_times es view
  is_there [] view x is = absurd (none-some x is)
  is_there (e ∷ es) view x is =
      by_key (is_at (nat_cmp view) e.0) refl is (λ h. is_there es view x h) where
        by_key : (b : Bool) → is_at (nat_cmp view) e.0 ≡ b
            → cond b (Some e.1) (slot_at es view) ≡ Some x
            → (slot_at es view ≡ Some x → 1 ≤ key_times es view)
            → 1 ≤ cond (e.0 == view) 1 0 + key_times es view
        by_key true at is rest =
            let same : e.0 ≡ view = sym (is_this view e.0 (nat_cmp view e.0) refl at) in
            rw (same, itself view (view == view) refl) (omega arith)
        by_key false at is rest =
            let more = rest is in omega (arith, more)

times_at_most : {R : Type 0} (rounds : List (ℕ × Slot R)) (view : ℕ) (o : Option (Slot R))
    → slot_at rounds view ≡ o → times_due o ≤ key_times rounds view
times_at_most rounds view None e = omega arith
times_at_most rounds view (Some s) e = by_change s.changed where
  there : 1 ≤ key_times rounds view
  there = is_there rounds view s e

  by_change : (b : Bool) → cond b 1 0 ≤ key_times rounds view
  by_change true = there
  by_change false = omega arith

-- No more views are listed than there are rounds.
pub no_more : {R : Type 0} (views : List (Reverse ℕ)) (rounds : List (ℕ × Slot R))
    → ((v : ℕ) → times views v ≡ times_due (slot_at rounds v)) → length views ≤ length rounds
no_more views rounds lists =
    no_longer views rounds (λ view. rw (lists view) (times_at_most rounds view (slot_at rounds view) refl))

-- Where a view isn't listed that may be, there is room for one more.
pub room_for : {R : Type 0} (views : List (Reverse ℕ)) (rounds : List (ℕ × Slot R)) (view : ℕ)
    (slot : Slot R)
    → ((v : ℕ) → times views v ≡ times_due (slot_at rounds v))
    → slot_at rounds view ≡ Some slot → slot.changed ≡ false → length views < length rounds
room_for views rounds view slot lists at rests =
    no_longer (record { 0 = view } ∷ views) rounds (λ other. by_view other (view == other) refl) where
      none : times views view ≡ 0
      none = rw (lists view, at, rests) refl

      by_view : (other : ℕ) (b : Bool) → (view == other) ≡ b
          → cond b 1 0 + times views other ≤ key_times rounds other
      by_view other true e =
          let same : view ≡ other = eqb-true view other e in
          let nothing : times views other ≡ 0 = rw same at none in
          let there : 1 ≤ key_times rounds other = rw same at (is_there rounds view slot at) in
          omega (arith, nothing, there)
      by_view other false e =
          let most = times_at_most rounds other (slot_at rounds other) refl in
          rw (lists other) (omega (arith, most))

-- what a slot wakes by
pub woken_due : (was is : Bool) → (was ≡ true → is ≡ true)
    → cond is 1 0 ≡ cond (not was && is) 1 0 + cond was 1 0
woken_due true is stays = rw (stays refl) refl
woken_due false true stays = refl
woken_due false false stays = refl

pub rested_before : (was is : Bool) → (not was && is) ≡ true → was ≡ false
rested_before true is e = absurd (true≢false (sym e))
rested_before false is e = refl

pub kept_listed : {R : Type 0} (before after : List (Reverse ℕ)) (room grown : ℕ)
    (old new : List (ℕ × Slot R))
    → ListsChanged before room old → after ≡ before → room ≤ grown → new ≡ old
    → ListsChanged after grown new
kept_listed before after room grown old new lists same more kept =
    record {
      listed = λ view. rw (same, kept) (lists.listed view);
      room = let all = lists.room in rw kept (omega (arith, all, more));
    }

-- Where one view is listed more, as its slot wakes, the lists stay right.
pub woken_listed : {R : Type 0} (before after : List (Reverse ℕ)) (room grown : ℕ)
    (old new : List (ℕ × Slot R))
    (view : ℕ) (wakes : Bool) → ListsChanged before room old → length new ≤ grown
    → ((o : ℕ) → times after o ≡ cond (wakes && (view == o)) 1 0 + times before o)
    → times_due (slot_at new view) ≡ cond wakes 1 0 + times_due (slot_at old view)
    → ((o : ℕ) → o ≢ view → slot_at new o ≡ slot_at old o) → ListsChanged after grown new
woken_listed before after room grown old new view wakes lists fits more here others =
    record { listed = λ o. by_view o (view == o) refl (more o); room = fits } where
      at_view : (b : Bool) → times after view ≡ cond (b && true) 1 0 + times before view
          → times_due (slot_at new view) ≡ cond b 1 0 + times_due (slot_at old view)
          → times after view ≡ times_due (slot_at new view)
      at_view true more here = let was = lists.listed view in rw (more, here, was) refl
      at_view false more here = let was = lists.listed view in rw (more, here, was) refl

      apart : (b : Bool) (o : ℕ) → o ≢ view → times after o ≡ cond (b && false) 1 0 + times before o
          → times after o ≡ times_due (slot_at new o)
      apart true o far more = rw (others o far) (let was = lists.listed o in omega (arith, more, was))
      apart false o far more = rw (others o far) (let was = lists.listed o in omega (arith, more, was))

      by_view : (o : ℕ) (b : Bool) → (view == o) ≡ b
          → times after o ≡ cond (wakes && b) 1 0 + times before o
          → times after o ≡ times_due (slot_at new o)
      by_view o true e more =
          let same : view ≡ o = eqb-true view o e in
          subst (λ v. times after v ≡ times_due (slot_at new v)) same
          (at_view wakes (rw (sym same) at more) here)
      by_view o false e more = apart wakes o (λ same. grind (arith, nat_tests, e, same)) more

-- Where one view is listed less, as its slot rests, the lists stay right.
pub rested_listed : {R : Type 0} (before after : List (Reverse ℕ)) (room left : ℕ)
    (old new : List (ℕ × Slot R))
    (view : ℕ) (rests : Bool) → ListsChanged before room old → left ≡ room → length new ≡ length old
    → ((o : ℕ) → times before o ≡ cond (rests && (view == o)) 1 0 + times after o)
    → times_due (slot_at old view) ≡ cond rests 1 0 + times_due (slot_at new view)
    → ((o : ℕ) → o ≢ view → slot_at new o ≡ slot_at old o) → ListsChanged after left new
rested_listed before after room left old new view rests lists same as_many less here others =
    record {
      listed = λ o. by_view o (view == o) refl (less o);
      room = let all = lists.room in omega (arith, all, same, as_many);
    } where
      at_view : (one was is due_before due_after : ℕ) → was ≡ one + is
          → due_before ≡ one + due_after
          → was ≡ due_before → is ≡ due_after
      at_view one was is due_before due_after a b c = omega (arith, a, b, c)

      at : (b : Bool) → times before view ≡ cond (b && true) 1 0 + times after view
          → times_due (slot_at old view) ≡ cond b 1 0 + times_due (slot_at new view)
          → times after view ≡ times_due (slot_at new view)
      at true less here = at_view 1 (times before view) (times after view) _ _ less here (lists.listed view)
      at false less here = at_view 0 (times before view) (times after view) _ _ less here (lists.listed view)

      apart : (b : Bool) (o : ℕ) → o ≢ view → times before o ≡ cond (b && false) 1 0 + times after o
          → times after o ≡ times_due (slot_at new o)
      apart true o far less = rw (others o far) (let was = lists.listed o in omega (arith, less, was))
      apart false o far less = rw (others o far) (let was = lists.listed o in omega (arith, less, was))

      by_view : (o : ℕ) (b : Bool) → (view == o) ≡ b
          → times before o ≡ cond (rests && b) 1 0 + times after o
          → times after o ≡ times_due (slot_at new o)
      by_view o true e less =
          let same : view ≡ o = eqb-true view o e in
          subst (λ v. times after v ≡ times_due (slot_at new v)) same
          (at rests (rw (sym same) at less) here)
      by_view o false e less = apart rests o (λ same. grind (arith, nat_tests, e, same)) less

module _ {R : Type 0} where
  -- what is listed has changed
  pub listed_changed : (o : Option (Slot R)) (n : ℕ) → n ≡ times_due o → 1 ≤ n → HasChanged o
  listed_changed None n e some = absurd (omega (arith, e, some))
  listed_changed (Some slot) n e some = by_change slot.changed refl e where
    by_change : (b : Bool) → slot.changed ≡ b → n ≡ cond b 1 0 → HasChanged (Some slot)
    by_change true is e = record { slot = slot; there = refl; changed = is }
    by_change false is e = absurd (omega (arith, e, some))

  -- what isn't listed rests
  pub unlisted_rests : (o : Option (Slot R)) → times_due o ≡ 0
      → IfSome o (λ slot. slot.changed ≡ false)
  unlisted_rests None e = tt
  unlisted_rests (Some slot) e = by_change slot.changed refl e where
    by_change : (b : Bool) → slot.changed ≡ b → cond {A = ℕ} b 1 0 ≡ 0 → slot.changed ≡ false
    by_change true is e = absurd (omega (arith, e))
    by_change false is e = is

  pub changed_listed : (o : Option (Slot R)) (n : ℕ) → n ≡ times_due o → HasChanged o → 1 ≤ n
  changed_listed o n e h =
      let one : times_due o ≡ 1 = rw (h.there, h.changed) refl in omega (arith, e, one)

  pub rests_unlisted : (o : Option (Slot R)) (n : ℕ) → n ≡ times_due o
      → IfSome o (λ slot. slot.changed ≡ false) → n ≡ 0
  rests_unlisted None n e rests = e
  rests_unlisted (Some slot) n e rests = rw rests at e

rested_due : (was is : Bool) → was ≡ true → cond {A = ℕ} was 1 0 ≡ cond (not is) 1 0 + cond is 1 0
rested_due was true e = rw e refl
rested_due was false e = rw e refl

pub on_either_side : (first : ℕ) (P : ℕ → Type 0) → ((view : ℕ) → first ≤ view → P view)
    → ((view : ℕ) → view < first → P view) → (view : ℕ) → P view
on_either_side first P up below view = by_side (nat_lt view first) refl where
  by_side : (b : Bool) → nat_lt view first ≡ b → P view
  by_side true e = below view (grind (arith, nat_tests, e))
  by_side false e = up view (grind (arith, nat_tests, e))

module _ {R : Type 0} where
  -- what is next is there, and has changed
  pub next_changed : (o : Option (Slot R)) (slot : Slot R) → HasChanged o → o ≡ Some slot
      → slot.changed ≡ true
  next_changed o slot h at =
      let same : Some h.slot ≡ Some slot = sym h.there ∙ at in
      subst (λ o. IfSome o (λ s. s.changed ≡ true)) same h.changed

  -- A view whose slot is written back as it was listed is listed rightly.
  pub as_listed : (views : List (Reverse ℕ)) (room : ℕ) (old new : List (ℕ × Slot R)) (view : ℕ)
      (was is : Slot R)
      → ListsChanged views room old → slot_at old view ≡ Some was → slot_at new view ≡ Some is
      → is.changed ≡ was.changed → length new ≡ length old
      → ((o : ℕ) → o ≢ view → slot_at new o ≡ slot_at old o) → ListsChanged views room new
  as_listed views room old new view was is lists at here same as_many others =
      woken_listed views views room room old new view false lists
      (let all = lists.room in omega (arith, all, as_many)) (λ o. omega arith)
      (let due : times_due (slot_at new view) ≡ times_due (slot_at old view) = rw (here, at, same) refl in omega (arith, due))
      others

  -- The next view is listed no more where its slot is found to rest.
  pub next_listed : (before after : List (Reverse ℕ)) (room left : ℕ) (old new : List
      (ℕ × Slot R)) (view : ℕ)
      (was is : Slot R) (gives : Bool) → ListsChanged before room old → IsNext old view
      → slot_at old view ≡ Some was → slot_at new view ≡ Some is → is.changed ≡ gives
      → ((view : ℕ) → 1 ≤ times before view → ((lower : ℕ) → lower < view → times before lower ≡ 0)
      → (o : ℕ) → times before o ≡ cond (not gives && (view == o)) 1 0 + times after o)
      → left ≡ room → length new ≡ length old
      → ((o : ℕ) → o ≢ view → slot_at new o ≡ slot_at old o) → ListsChanged after left new
  next_listed before after room left old new view was is gives lists next at here same less kept as_many others =
      rested_listed before after room left old new view (not gives) lists kept as_many
      (less view (changed_listed (slot_at old view) (times before view) (lists.listed view) next.changed)
      (λ lower below. rests_unlisted (slot_at old lower) (times before lower) (lists.listed lower) (next.lowest lower below)))
      (rw (here, at, same) (rested_due was.changed gives (next_changed (slot_at old view) was next.changed at))) others
