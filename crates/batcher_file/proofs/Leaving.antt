-- What steps come to, and what a crash leaves while they are under way.
use Rattle.batcher_file.proofs.Words.{◌≡◌, ◌⊎◌, ◌+◌, ◌^◌, ◌<◌, ◌≤◌, ◌++◌, ◌∙◌, ℕ, Bool, true, false, List, [], ◌∷◌, ap, arith, drop, inl, inr, length, refl}
use Rattle.batcher_file.proofs.Words.{subst, sym, take, IsTrue, Cut, Mixed, Only, Torn, Finishes, IsBlank, IsSyncedAs, IsShutting, MayBe, MayHave, MayRetire}
use Rattle.batcher_file.proofs.Words.{AreBegun, AreDone, IsDone, IsFailed, IsTried, add, on, renew, retire, Step, Byte, Frame, SetLen}
use Rattle.batcher_file.proofs.Torn.{cut_off, cut_within, is_open, is_shut, opening_leaves, shutting, writing_leaves}

module _ {K : Type 0} (seen : K → List ℕ) (may_leave : K → List ℕ → Type 0)
    (is_usable is_clean is_mixing : K → Bool) (faults : K → ℕ) (frame : List ℕ) where
  abbrev One : Step → K → K → Type 0
  One = IsDone seen may_leave is_usable is_clean is_mixing faults frame

  abbrev Tried : Step → K → K → Type 0
  Tried = IsTried seen may_leave is_usable is_clean is_mixing faults frame

  abbrev Failed : Step → K → K → Type 0
  Failed = IsFailed seen may_leave is_usable is_clean is_mixing faults frame

  abbrev All : List (Bool × Step) → K → K → K → K → Type 0
  All = AreDone seen may_leave is_usable is_clean is_mixing faults frame

  abbrev Some : List (Bool × Step) → K → K → K → K → Type 0
  Some = AreBegun seen may_leave is_usable is_clean is_mixing faults frame

  abbrev Kept : K → List ℕ → Type 0
  Kept = IsSyncedAs seen may_leave

  abbrev Durable : K → Type 0
  Durable disk = Only (seen disk) (may_leave disk)

  abbrev Whole : Type 0
  Whole = Finishes is_mixing

  -- steps of one file
  abbrev pub Done : List Step → K → K → Type 0
  Done [] old new = new ≡ old
  Done (step ∷ more) old new = (middle : K) × One step old middle × Done more middle new

  abbrev pub Begun : List Step → K → K → Type 0
  Begun [] old new = ⊥
  Begun (step ∷ more) old new =
      Failed step old new ⊎ ((middle : K) × One step old middle × Begun more middle new)

  -- Those of a plan that begins with one file are those of that file, and then the others.
  pub done_of_current : (steps : List Step) (more : List (Bool × Step)) (a b c d : K)
      → All (on false steps ++ more) a b c d → (middle : K) × Done steps a middle
      × All more middle b c d
  done_of_current [] more a b c d it = (a, refl, it)
  done_of_current (step ∷ steps) more a b c d it =
      let rest = done_of_current steps more it.0 b c d it.2 in
      (rest.0, (it.0, it.1, rest.1), rest.2)

  pub done_of_other : (steps : List Step) (more : List (Bool × Step)) (a b c d : K)
      → All (on true steps ++ more) a b c d → (middle : K) × Done steps b middle
      × All more a middle c d
  done_of_other [] more a b c d it = (b, refl, it)
  done_of_other (step ∷ steps) more a b c d it =
      let rest = done_of_other steps more a it.0 c d it.2 in
      (rest.0, (it.0, it.1, rest.1), rest.2)

  pub begun_of_current : (steps : List Step) (more : List (Bool × Step)) (a b c d : K)
      → Some (on false steps ++ more) a b c d
      → (Begun steps a c × (d ≡ b)) ⊎ ((middle : K) × Done steps a middle × Some more middle b c d)
  begun_of_current [] more a b c d it = inr (a, refl, it)
  begun_of_current (step ∷ steps) more a b c d (inl it) = inl (inl it.0, it.1)
  begun_of_current (step ∷ steps) more a b c d (inr it) =
      elim (begun_of_current steps more it.0 b c d it.2) [
        | inl here ↦ inl (inr (it.0, it.1, here.0), here.1)
        | inr later ↦ inr (later.0, (it.0, it.1, later.1), later.2)
      ]

  pub begun_of_other : (steps : List Step) (more : List (Bool × Step)) (a b c d : K)
      → Some (on true steps ++ more) a b c d
      → (Begun steps b d × (c ≡ a)) ⊎ ((middle : K) × Done steps b middle × Some more a middle c d)
  begun_of_other [] more a b c d it = inr (b, refl, it)
  begun_of_other (step ∷ steps) more a b c d (inl it) = inl (inl it.0, it.1)
  begun_of_other (step ∷ steps) more a b c d (inr it) =
      elim (begun_of_other steps more a it.0 c d it.2) [
        | inl here ↦ inl (inr (it.0, it.1, here.0), here.1)
        | inr later ↦ inr (later.0, (it.0, it.1, later.1), later.2)
      ]

  -- and those of one file, in two parts
  pub begun_parts : (first second : List Step) (a b : K) → Begun (first ++ second) a b
      → Begun first a b ⊎ ((middle : K) × Done first a middle × Begun second middle b)
  begun_parts [] second a b it = inr (a, refl, it)
  begun_parts (step ∷ first) second a b (inl failed) = inl (inl failed)
  begun_parts (step ∷ first) second a b (inr it) = elim (begun_parts first second it.0 b it.2) [
    | inl here ↦ inl (inr (it.0, it.1, here))
    | inr later ↦ inr (later.0, (it.0, it.1, later.1), later.2)
  ]

  pub done_parts : (first second : List Step) (a b : K) → Done (first ++ second) a b
      → (middle : K) × Done first a middle × Done second middle b
  done_parts [] second a b it = (a, refl, it)
  done_parts (step ∷ first) second a b it =
      let rest = done_parts first second it.0 b it.2 in
      (rest.0, (it.0, it.1, rest.1), rest.2)

  -- what holds of each disk on the way
  pub done_clean : (steps : List Step) (a b : K) → Done steps a b → IsTrue (is_clean b)
      → IsTrue (is_clean a)
  done_clean [] a b it clean = subst (λ k. IsTrue (is_clean k)) it clean
  done_clean (step ∷ steps) a b it clean =
      it.1.tried.clean (done_clean steps it.0 b it.2 clean)

  pub begun_clean : (steps : List Step) (a b : K) → Begun steps a b → IsTrue (is_clean b)
      → IsTrue (is_clean a)
  begun_clean [] a b it clean = absurd it
  begun_clean (step ∷ steps) a b (inl failed) clean = failed.tried.clean clean
  begun_clean (step ∷ steps) a b (inr it) clean =
      it.1.tried.clean (begun_clean steps it.0 b it.2 clean)

  -- A frame is added.
  module _ (front : List ℕ) (gate end : ℕ) (len : length front ≡ end) (some : 0 < length frame)
      (old : K) (kept : Kept old (front ++ gate ∷ [])) where
    module _ (middle : K) (framed : One (Frame (end + 1)) old middle) where
      opens : (new : K) → Tried (Byte end 255) middle new → end + 1 < 2 ^ 64 → (file : List ℕ)
          → may_leave new file → MayHave Whole front gate frame file
      opens new tried fits file left =
          opening_leaves front end gate len frame (seen old) (seen middle) kept.same framed.touched
          (framed.there some) Whole (may_leave middle) file framed.durable
          (λ finishes. tried.mixed (finishes middle) fits file left) (tried.crash file left)

      pub is_added : (new : K) → One (Byte end 255) middle new → Kept new (front ++ 255 ∷ frame)
      is_added new done = record {
        same = is_open front end gate len frame (seen old) (seen middle) kept.same framed.touched
            (framed.there some) (seen new) done.touched done.there;
        durable = done.durable;
      }

    writes : (new : K) → Tried (Frame (end + 1)) old new → (file : List ℕ) → may_leave new file
        → MayHave Whole front gate frame file
    writes new tried file left =
        writing_leaves front end gate len Whole frame (seen old) (may_leave old) file kept.same
        kept.durable (tried.crash file left)

    pub adding_leaves : end + 1 < 2 ^ 64 → (new : K) → Begun (add end (end + 1)) old new
        → (file : List ℕ) → may_leave new file → MayHave Whole front gate frame file
    adding_leaves fits new (inl failed) file left = writes new failed.tried file left
    adding_leaves fits new (inr it) file left = elim it.2 [
      | inl failed ↦ opens it.0 it.1 new failed.tried fits file left
      | inr more ↦ absurd more.2
    ]

    pub added : (new : K) → Done (add end (end + 1)) old new → Kept new (front ++ 255 ∷ frame)
    added new it = subst (λ k. Kept k (front ++ 255 ∷ frame)) (sym it.2.2)
        (is_added it.0 it.1 it.2.0 it.2.1)

  -- A file is cut.
  module _ (len : ℕ) (old : K) (long : len ≤ length (seen old)) where
    pub is_cut : (new : K) → One (SetLen len) old new → Kept new (take len (seen old))
    is_cut new done = record {
      same = cut_off len (seen old) (seen new) long done.touched done.there;
      durable = done.durable;
    }

    pub cutting_leaves : Durable old → (new : K) → Tried (SetLen len) old new → (file : List ℕ)
        → may_leave new file
        → (file ≡ take len (seen old) ++ drop len file) × (length file ≤ length (seen old))
    cutting_leaves durable new tried file left =
        let from = tried.crash file left in
        cut_within len (seen old) file long (subst (λ d. Cut len d file) (durable from.0 from.1)
        from.2)

  -- A file is taken out of use.
  module _ (old : K) (durable : Durable old) where
    shut_leaves : (new : K) → Tried (Byte 0 15) old new → (file : List ℕ) → may_leave new file
        → (length file ≤ 1) ⊎ IsShutting Whole (seen old) file
    shut_leaves new tried file left =
        let from = tried.crash file left in
        shutting (seen old) file (subst (λ d. Torn 0 1 d file) (durable from.0 from.1) from.2) Whole
        (λ finishes.
        let mixed = tried.mixed (finishes old) (omega arith) file left in
        subst (λ d. Mixed 0 (15 ∷ []) d file) (durable mixed.0 mixed.1) mixed.2)

    shut_is : (middle : K) → One (Byte 0 15) old middle → seen middle ≡ 15 ∷ drop 1 (seen old)
    shut_is middle done = is_shut (seen old) (seen middle) done.touched done.there

    module _ (middle : K) (shut : One (Byte 0 15) old middle) where
      long : 1 ≤ length (seen middle)
      long = omega (arith, ap length (shut_is middle shut))

      emptied : (new : K) → Tried (SetLen 1) middle new → (file : List ℕ) → may_leave new file
          → IsBlank file
      emptied new tried file left =
          let cut = cutting_leaves 1 middle long shut.durable new tried file left in
          inr (record {
            rest = drop 1 file;
            parts = cut.0 ∙ ap (λ t. take 1 t ++ drop 1 file) (shut_is middle shut);
          })

      is_empty : (new : K) → One (SetLen 1) middle new → Kept new (15 ∷ [])
      is_empty new done =
          let it = is_cut 1 middle long new done in
          record { same = it.same ∙ ap (take 1) (shut_is middle shut); durable = it.durable }

    first_leaves : (new : K) → Tried (Byte 0 15) old new → (file : List ℕ) → may_leave new file
        → MayRetire Whole (seen old) file
    first_leaves new tried file left = elim (shut_leaves new tried file left) [
      | inl short ↦ inl (inl short)
      | inr it ↦ inr it
    ]

    pub retiring_leaves : (new : K) → Begun retire old new → (file : List ℕ) → may_leave new file
        → MayRetire Whole (seen old) file
    retiring_leaves new (inl failed) file left = first_leaves new failed.tried file left
    retiring_leaves new (inr it) file left = elim it.2 [
      | inl failed ↦ inl (emptied it.0 it.1 new failed.tried file left)
      | inr more ↦ absurd more.2
    ]

    pub retired : (new : K) → Done retire old new → Kept new (15 ∷ [])
    retired new it = subst (λ k. Kept k (15 ∷ [])) (sym it.2.2) (is_empty it.0 it.1 it.2.0 it.2.1)

    -- It is made anew.
    module _ (some : 0 < length frame) where
      as_renewed : (file : List ℕ) → MayHave Whole [] 15 frame file
          → MayBe Whole (seen old) frame file
      as_renewed file (inl before) = inl (inr (record { rest = before.rest; parts = before.parts }))
      as_renewed file (inr gate) = inr (inr gate)

      as_retired : (file : List ℕ) → MayRetire Whole (seen old) file
          → MayBe Whole (seen old) frame file
      as_retired file (inl blank) = inl blank
      as_retired file (inr it) = inr (inl it)

      pub renewing_leaves : (new : K) → Begun renew old new → (file : List ℕ) → may_leave new file
          → MayBe Whole (seen old) frame file
      renewing_leaves new it file left = elim (begun_parts retire (add 0 1) old new it) [
        | inl begun ↦ as_retired file (retiring_leaves new begun file left)
        | inr later ↦
            as_renewed file
            (adding_leaves [] 15 0 refl some later.0 (retired later.0 later.1) (omega arith) new
            later.2 file left)
      ]

      pub renewed : (new : K) → Done renew old new → Kept new (255 ∷ frame)
      renewed new done =
          let parts = done_parts retire (add 0 1) old new done in
          added [] 15 0 refl some parts.0 (retired parts.0 parts.1) new parts.2
