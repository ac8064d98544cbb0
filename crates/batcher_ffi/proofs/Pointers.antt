-- The machine values of a pointer beside an allocator's handle, which an `Unboxed` and a `Handle`
-- are made of. Assumes `Logic`.
--     word p h             the struct of the pointer p and the machine value h of the allocator
--     parts_out, parts_in  what such a struct owns is what its parts own, both ways
--     with_one             what runs with one machine value runs with a list of it
use Rattle.batcher_ffi.proofs.Words.{◌≡◌, ◌&&◌, ◌∙◌, ℕ, true, List, [], ◌∷◌, ◌++◌, refl, sym, subst, lit<}
use lib.Dec.{T}
use seplogic.Ra.Ura.{Ura}
use mir.Syntax.{impl, tnil, dnil}
use mir.Raw.{raw as bare}
use mir.Val.{Val, vstruct, of_list, has_ty, WT}
use base.Fml.{Fml, fsep}
use base.Fraction.{full_share}
use base.Logic.{SProp, ent, via, guard, guard_i, never, id⊢, fst∗, snd∗}
use contract.Monad.{fact_use}
use types.Logic.{Logic, sem}
use types.Kit.{Item, Goal, prop, Seq, Step, step, ‵, given, ◌$◌, move, drop, fsplit, fjoin, fpick, fpack, feq_i, feq_l, learn, suffices, use1}
use denote.RattleType.{RattleType, Valss}
use denote.Memory.{lone}
use denote.RawPtr.{Ptr, RawPtr, block_ptr, null_ptr, ptr_val, in_a_block, lies_at, Testable}
use denote.Steps.{nothing}
use denote.Param.{layout}
use denote.Param.Laws.{Laws}
use denote.Struct.Struct.{Struct, Shape, within}
use Rattle.batcher_ffi.proofs.Words.{Ghosts, Al, handle_tells, Good, and_tt, Option, None, Some}
use Rattle.std.specs.contracts.alloc.Global as heap
use Rattle.std.specs.contracts.impls.GlobalAllocator.TheImpl.{ghosts}
use Rattle.std.proofs.alloc.Global.TheLaws as heap_laws
use Rattle.batcher_ffi.proofs.Words.{dealloc_token-Testable, block_owned, owned_or_null}
use Rattle.batcher_ffi.specs.contracts.unboxed.Unboxed as unboxed

abbrev pub word : Ptr → Val → Val
word p h = vstruct (of_list (ptr_val p ∷ h ∷ []))

module _ {M : Type 1} {𝓤 : Ura M} {𝓛 : Logic 𝓤} {K : Type 0} {Γ : List (Item 𝓤)} where
  pub with_one : K → (Runs : List Val → SProp 𝓤) (vs : List Val) (v : Val) → vs ≡ v ∷ []
      → Step K 𝓛 Γ (prop (Runs (v ∷ []))) Γ (prop (Runs (vs ++ [])))
  with_one t Runs vs v is =
      suffices t (Runs (v ∷ [])) (subst (λ (ws : List Val). ent 𝓤 (Runs (v ∷ [])) (Runs ws))
      (sym (λ i. is i ++ [])) (id⊢ 𝓤 (Runs (v ∷ []))))

-- an allocator's row, whatever its calls are
abbrev pub bare_alloc : (Z : RattleType) → Laws Z → Ghosts Z.Denot → Al
bare_alloc Z L g =
    record { row = Z; laws = L; g = g; d = impl [] tnil dnil; drops = impl [] tnil dnil }

module _ (Z : RattleType) (L : Laws Z) (g : Ghosts Z.Denot) where
  abbrev pub shape_of_parts : Shape
  shape_of_parts = record { name = []; args = []; types = []; fields = RawPtr ∷ Z ∷ [] }

  abbrev pub Parts : RattleType
  Parts = Struct shape_of_parts

  pub fits_at : (b o : ℕ) (h : Val) → Good (layout Z) h
      → T (has_ty (layout Z) h && true) × WT (word (block_ptr b o) h)
  fits_at b o h fits = (and_tt (has_ty (layout Z) h) fits.0, (tt, (fits.1, tt)))

  pub fits_null : (h : Val) → Good (layout Z) h
      → T (has_ty (layout Z) h && true) × WT (word null_ptr h)
  fits_null h fits =
      (and_tt (has_ty (layout Z) h) fits.0, (record { fits = lit< tt }, (fits.1, tt)))

  module _ {M : Type 1} {𝓤 : Ura M} {𝓛 : Logic 𝓤} {K : Type 0} {Γ : List (Item 𝓤)} {G : Goal 𝓤 𝓛.H} where
    pub parts_out : K → (p : Ptr) (a : Z.Denot) (vs : List Val)
        → ((h : Val) → vs ≡ word p h ∷ [] → Good (layout Z) h
        → Seq K 𝓛 (‵ (Z.own_val a (h ∷ [])) ∷ Γ) G)
        → Seq K 𝓛 (‵ (Parts.own_val (p, (a, tt)) vs) ∷ Γ) G
    parts_out t p a vs next =
        fpick t (λ each. fsplit t $ feq_l t (λ whole. fsplit t $ feq_l t (λ pointer. fsplit t $
        handle_tells (bare_alloc Z L g) t a each.1.0 (λ h handle fits. move t (1 ∷ []) $ drop t $
        next h (whole ∙ (λ i. vstruct (of_list (pointer i ++ (handle i ++ []))) ∷ [])) fits))))

    pub parts_in : K → (p : Ptr) (a : Z.Denot) (h : Val)
        → Step K 𝓛 (‵ (Parts.own_val (p, (a, tt)) (word p h ∷ [])) ∷ Γ) G
        (‵ (Z.own_val a (h ∷ [])) ∷ Γ) G
    parts_in t p a h = step (λ next.
        nothing t $ move t (1 ∷ 0 ∷ []) $ fjoin t $
        feq_i t (List Val) (ptr_val p ∷ []) (ptr_val p ∷ []) refl $ fjoin t $
        feq_i t (List Val) (word p h ∷ []) (word p h ∷ []) refl $ fjoin t $
        fpack t (Valss (RawPtr ∷ Z ∷ []))
        (within shape_of_parts (p, (a, tt)) (word p h ∷ []))
        (ptr_val p ∷ [], (h ∷ [], tt)) $ next)

-- An `Unboxed` is at some place in memory, and owns the value there.
module _ (R Z : RattleType) (L : Laws Z) (g : Ghosts Z.Denot) where
  abbrev pub Unboxed : RattleType
  Unboxed = unboxed.the_row R Z g

  abbrev pub there : Z.Denot → Ptr → R.Denot → Fml
  there a p x = block_owned R (g.dealloc_token a) p x

  module _ {M : Type 1} {𝓤 : Ura M} {𝓛 : Logic 𝓤} {K : Type 0} {Γ : List (Item 𝓤)} {G : Goal 𝓤 𝓛.H} where
    -- what is owned there isn't at null
    pub somewhere : K → (a : Z.Denot) (p : Ptr) (x : R.Denot)
        → ((b o : ℕ) → p ≡ block_ptr b o → Seq K 𝓛 (‵ (there a (block_ptr b o) x) ∷ Γ) G)
        → Seq K 𝓛 (‵ (there a p x) ∷ Γ) G
    somewhere t a p x next =
        in_a_block t p (λ q. there a q x)
        (fst∗ 𝓤 (never 𝓤) (sem 𝓛 (g.dealloc_token a (bare (lone R.mir)) null_ptr))) next

  module _ {M : Type 1} {𝓤 : Ura M} {𝓛 : Logic 𝓤} {K : Type 0} {Γ : List (Item 𝓤)} {G : Goal 𝓤 𝓛.H} where
    pub unboxed_out : K → (u : Unboxed.Denot) (vs : List Val)
        → ((b o : ℕ) (h : Val) → vs ≡ word (block_ptr b o) h ∷ [] → Good (layout Z) h
        → Seq K 𝓛
        (‵ (there u.alloc (block_ptr b o) u.value) ∷ ‵ (Z.own_val u.alloc (h ∷ [])) ∷ Γ) G)
        → Seq K 𝓛 (‵ (Unboxed.own_val u vs) ∷ Γ) G
    unboxed_out t u vs next =
        fsplit t $ parts_out Z L g t u.at u.alloc vs (λ h whole fits. move t (1 ∷ []) $
        somewhere t u.alloc u.at u.value (λ b o place.
        next b o h (subst (λ (p : Ptr). vs ≡ word p h ∷ []) place whole) fits))

    pub unboxed_in : K → (b o : ℕ) (h : Val) (a : Z.Denot) (x : R.Denot)
        → Step K 𝓛 (‵ (Unboxed.own_val (record { at = block_ptr b o; alloc = a; value = x })
        (word (block_ptr b o) h ∷ [])) ∷ Γ) G
        (‵ (there a (block_ptr b o) x) ∷ ‵ (Z.own_val a (h ∷ [])) ∷ Γ) G
    unboxed_in t b o h a x = step (λ next.
        move t (1 ∷ []) $ parts_in Z L g t (block_ptr b o) a h $ fjoin t $ next)

-- what is owned on this heap may be compared with null
module _ (R : RattleType) (a : heap.the_row.Denot) {M : Type 1} {𝓤 : Ura M} (𝓛 : Logic 𝓤) where
  pub testable : (p : Ptr) (x : R.Denot)
      → ent 𝓤 (sem 𝓛 (there R heap.the_row heap_laws.the_row_laws ghosts a p x))
      (guard 𝓤 (Testable p) (sem 𝓛 (there R heap.the_row heap_laws.the_row_laws ghosts a p x)))
  testable p x =
      let token = sem 𝓛 (ghosts.dealloc_token a (bare (lone R.mir)) p) in
      fact_use 𝓤 (Testable p)
      (via 𝓤 token (snd∗ 𝓤 (sem 𝓛 (lies_at R full_share p x)) token)
      (dealloc_token-Testable 𝓛 a (bare (lone R.mir)) p))
      (guard_i 𝓤 (Testable p)
      (sem 𝓛 (there R heap.the_row heap_laws.the_row_laws ghosts a p x)))

-- what a handle owns: nothing at null, or a value on this heap
module _ (R : RattleType) {M : Type 1} {𝓤 : Ura M} {𝓛 : Logic 𝓤} {K : Type 0} {Γ : List (Item 𝓤)} {G : Goal 𝓤 𝓛.H} where
  pub either : K → (a : heap.the_row.Denot) (p : Ptr) (held : Option R.Denot)
      → (held ≡ None → p ≡ null_ptr → Seq K 𝓛 Γ G)
      → ((b o : ℕ) (x : R.Denot) → held ≡ Some x → p ≡ block_ptr b o → Testable (block_ptr b o)
      → Seq K 𝓛
      (‵ (there R heap.the_row heap_laws.the_row_laws ghosts a (block_ptr b o) x) ∷ Γ) G)
      → Seq K 𝓛 (‵ (owned_or_null R a p held) ∷ Γ) G
  either t a p None none one = feq_l t (λ null. none refl null)
  either t a p (Some x) none one =
      somewhere R heap.the_row heap_laws.the_row_laws ghosts t a p x (λ b o place.
      let whole =
      there R heap.the_row heap_laws.the_row_laws ghosts a (block_ptr b o) x in
      use1 𝓛 (given (Testable (block_ptr b o)) (‵ whole)) (testable R a 𝓛 (block_ptr b o) x) $
      learn t (λ tests. one b o x refl place tests))

-- a handle, as what its pointer, its allocator and what is there own
module _ (R : RattleType) where
  abbrev Heap : RattleType
  Heap = (heap.the_field).row

  abbrev pub handle_owns : Ptr → heap.the_row.Denot → Option R.Denot → List Val → Fml
  handle_owns p a held vs =
      fsep ((Struct (record { name = []; args = []; types = []; fields = RawPtr ∷ Heap ∷ [] })).own_val
      (p, (((tt, tt), tt), tt)) vs) (owned_or_null R a p held)

  module _ {M : Type 1} {𝓤 : Ura M} {𝓛 : Logic 𝓤} {K : Type 0} {Γ : List (Item 𝓤)} {G : Goal 𝓤 𝓛.H} where
    pub handle_out : K → (p : Ptr) (a : heap.the_row.Denot) (held : Option R.Denot) (vs : List Val)
        → ((h : Val) → vs ≡ word p h ∷ [] → Good (layout heap.the_row) h
        → Seq K 𝓛
        (‵ (owned_or_null R a p held) ∷ ‵ (heap.the_row.own_val a (h ∷ [])) ∷ Γ) G)
        → Seq K 𝓛 (‵ (handle_owns p a held vs) ∷ Γ) G
    handle_out t p a held vs next =
        fsplit t $ parts_out heap.the_row heap_laws.the_row_laws ghosts t p a vs
        (λ h whole fits. move t (1 ∷ []) $ next h whole fits)

    pub handle_in : K → (p : Ptr) (a : heap.the_row.Denot) (held : Option R.Denot) (h : Val)
        → Step K 𝓛 (‵ (handle_owns p a held (word p h ∷ [])) ∷ Γ) G
        (‵ (owned_or_null R a p held) ∷ ‵ (heap.the_row.own_val a (h ∷ [])) ∷ Γ) G
    handle_in t p a held h = step (λ next.
        move t (1 ∷ []) $ parts_in heap.the_row heap_laws.the_row_laws ghosts t p a h $ fjoin t $ next)
