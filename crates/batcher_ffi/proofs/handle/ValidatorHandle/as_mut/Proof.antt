-- `as_mut` reads the pointer, and lends what is there.
use Rattle.batcher_ffi.proofs.Words.{◌≡◌, ℕ, List, [], ◌∷◌, refl, sym, lit<}
use seplogic.Ra.Ura.{Ura}
use mir.Syntax.{Body, seq, assign, place, rv_opd, copy, aggregate, int, w8, named}
use mir.Val.{Val, vptr, vcons, vnil}
use mir.Raw.{raw as bare}
use base.Fraction.{full_share}
use base.Logic.{SProp, ent, sep, emp}
use base.Fml.{Fml, GName, fsep, ftrue, flft, fres}
use prog.Wp.{WpFn, Wp, after_seq, at_return}
use types.Logic.{Logic, sem}
use types.Kit.{‵, raw, later, some, ◌⊛◌, at_ret, any_q, ◌$◌, ◌∵◌, !, qed, by, move, keep, drop, split, split3, join, fsplit, fsplit3, fjoin, fpack, feq_l}
use types.Kit.{feq_i, rewrite, use0, use1, await, pick, group, done}
use types.Run.{stop, fld, addr, lit, load, of_opd, bin, no_more, and_then, first, blocks, branches, exec, returns, enter}
use types.ByLocal.{alloc_all, pass_all, free_all, look_at, get, through, sets, sets_last, env}
use types.Part.{agg, look_in, sub, whole}
use types.Match.{live}
use contract.Monad.{fact, fact_i}
use contract.Running.{tables}
use denote.Exit.{no}
use denote.Follow.{follows, follows_by, lends_Part}
use denote.Memory.{cell_at, lone, mem, part_at, part_of}
use denote.RattleType.{RattleType, owns}
use denote.Ref.{MutBor, MutRef}
use denote.Signature.{types_at, type_at, plain, mut_ref_to}
use denote.RawPtr.{Ptr, block_ptr, null_ptr, tests_null}
use denote.Steps.{nothing, opens, closes}
use denote.Param.{layout}
use denote.Triple.Walked.{Stays, stay_dropped, walk_of, Goes-spent_ref}
use Rattle.batcher_ffi.proofs.Words.{after, Ptr-Good, Good, Some-of, none_of, Option, None, Some}
use Rattle.std.specs.contracts.alloc.Global as heap
use Rattle.batcher_ffi.proofs.Words.{proved_at, leaves, owned_or_null}
use Rattle.std.specs.contracts.impls.GlobalAllocator.TheImpl.{ghosts}
use Rattle.batcher_ffi.proofs.Pointers.{word, with_one, either, handle_out, handle_in}
use Rattle.batcher_ffi.specs.Rows.{validator_row as R}
use Rattle.batcher_ffi.specs.contracts.handle.ValidatorHandle.{the_row as Handle}
use Rattle.batcher_ffi.specs.contracts.handle.ValidatorHandle.as_mut.{ended, clauses}
use Rattle.batcher_ffi.specs.contracts.handle.ValidatorHandle.as_mut.Key.{name}
use Rattle.batcher_ffi.proofs.handle.ValidatorHandle.as_mut.Statement.{statement}
use Rattle.batcher_ffi.proofs.handle.ValidatorHandle.as_mut.Code as code

-- what is left of the branch that found a value
abbrev wraps : Body
wraps = seq (assign (place 7 []) (rv_opd (copy (place 8 []))))
    (assign (place 6 []) (aggregate (int w8 1 ∷ copy (place 7 []) ∷ [])))

-- the handle with another value
abbrev holding : Handle.Denot → R.Denot → Handle.Denot
holding d w = record d { value = Some w }

module _ {M : Type 1} {𝓤 : Ura M} (𝓛 : Logic 𝓤) (d : Handle.Denot) (b o at_b at_o : ℕ) (h : Val) where
  -- all of the handle but the value
  abbrev Rest : Fml
  Rest = fsep (fsep (ghosts.dealloc_token d.alloc (bare (lone R.mir)) (block_ptr at_b at_o))
      (heap.the_row.own_val d.alloc (h ∷ [])))
      (cell_at full_share Handle.mir (word (block_ptr at_b at_o) h ∷ []) b o)

  back : d.at ≡ block_ptr at_b at_o → (w : R.Denot)
      → ent 𝓤 (sep 𝓤 (sem 𝓛 ((mem R).own_at w at_b at_o)) (sem 𝓛 Rest))
      (sem 𝓛 ((mem Handle).own_at (holding d w) b o))
  unfolding part_of
  back spot w =
      qed 𝓛 (‵ (part_at R full_share w at_b at_o) ∷ ‵ Rest ∷ []) ∵
      move ! (1 ∷ []) $ fsplit ! $ fsplit ! $ move ! (3 ∷ 0 ∷ []) $ fjoin ! $
      rewrite ! 2 (λ (p : Ptr). ‵ (cell_at full_share Handle.mir (word p h ∷ []) b o)) (sym spot) refl $
      rewrite ! 0 (λ (p : Ptr). ‵ (owned_or_null R d.alloc p (Some w))) (sym spot) refl $
      handle_in R ! d.at d.alloc (Some w) h $ move ! (1 ∷ 0 ∷ []) $ fjoin ! $
      fpack ! (List Val) (λ us. fsep (cell_at full_share Handle.mir us b o)
      (Handle.own_val (holding d w) us)) (word d.at h ∷ []) $ done !

pub as_mut_spec : {M : Type 1} → statement M
unfolding follows_by
as_mut_spec 𝓤 𝓛 𝓜 𝓡 wired =
    let H = 𝓛.H in
    let 𝓣 = tables 𝓤 H 𝓜 𝓡 𝓡.env in
    let c = clauses 𝓛 𝓜.mem 𝓡.returns in
    let body = code.function in
    let stays : Stays ended.signature.params ended.kept =
    (stay_dropped (mut_ref_to (0 ∷ []) tt (plain (λ _. Handle))) no, tt) in
    proved_at 𝓛 ended stays c 𝓜 𝓡 (Goes-spent_ref 𝓛 1 (0 ∷ []) tt (plain (λ _. Handle)), tt) name body
    (code.unfolded 𝓤 H 𝓜 𝓡 wired) (λ z are.
    let κs = z.0.0 in let κ = κs.0 in let q = z.0.1.0 in let self = z.0.3.0 in
    let d : Handle.Denot = self.now in let γ : GName = self.ghost_name in
    let b : ℕ = self.ref_ptr.0 in let o : ℕ = self.ref_ptr.1 in
    let Post : Val → SProp 𝓤 = (walk_of 𝓛 ended stays c).post z in
    let Runs : List Val → SProp 𝓤 = λ ws. WpFn 𝓤 H 𝓣.C 𝓣.Λ body ws Post in
    let Lent : RattleType = MutRef (named 0) κ R in
    let Out : RattleType = type_at ended.signature.result κs in
    qed 𝓛 (((‵ (flft κ q) ⊛ ‵ ftrue) ⊛ ‵ (owns (types_at ended.signature.params κs) z.0.3 z.0.4))
    ∷ raw ((c κs z.0.3).requires z.1) ∷ []) ∵
    split ! $ split ! $ move ! (2 ∷ []) $ fsplit ! $ fsplit3 ! $ feq_l ! (λ is. keep ! (0 ∷ 1 ∷ 3 ∷ []) $
    with_one ! Runs z.0.4.0 (vptr b o) is $
    enter ! 𝓣.C 𝓣.Λ body (vptr b o ∷ []) Post $ alloc_all ! (λ l. pass_all ! refl ((tt, tt), tt) $
    let En = env body.locals l in
    opens ! tt Handle {h = d} b o (λ vs. move ! (1 ∷ []) $
    handle_out R ! d.at d.alloc d.value vs (λ h word_is fits.
    rewrite ! 2 (λ (us : List Val). ‵ (cell_at full_share Handle.mir us b o)) word_is refl $
    either R ! d.alloc d.at d.value
    -- [the allocator's handle; the cell; the open borrow; what is observed; who has it]
    (λ empty null.
    let none_fits : Good (layout Out) (live 0 vnil) = (tt, (record { fits = lit< tt }, tt)) in
    rewrite ! 1 (λ (p : Ptr). ‵ (cell_at full_share Handle.mir (word p h ∷ []) b o)) null refl $
    sets ! (of_opd ! (load ! (through ! refl (fld ! refl (stop !))) (look_in ! 1 (sub ! 0 refl (whole !))))) refl (Ptr-Good null_ptr) $
    sets ! (of_opd ! (get ! refl)) refl (Ptr-Good null_ptr) $
    sets ! (of_opd ! (get ! refl)) refl (Ptr-Good null_ptr) $
    sets ! (bin ! (get ! refl) (lit ! tt) tt) refl (tt, tt) $ first ! $ branches ! (get ! refl)
    (λ _. sets_last ! (agg ! (and_then ! (lit ! tt) (no_more !))) refl none_fits $
    exec ! 𝓣.C 𝓣.Λ En (after 5 body.body) (at_ret En Post) $
    sets ! (of_opd ! (get ! refl)) refl none_fits $
    rewrite ! 1 (λ (p : Ptr). ‵ (cell_at full_share Handle.mir (word p h ∷ []) b o)) (sym null) refl $
    feq_i ! Ptr d.at null_ptr null $
    rewrite ! 0 (λ (held : Option R.Denot). ‵ (owned_or_null R d.alloc d.at held)) (sym empty) refl $
    handle_in R ! d.at d.alloc d.value h $ move ! (1 ∷ 0 ∷ []) $
    closes ! tt Handle d (word d.at h ∷ []) b o $
    use1 𝓛 (‵ (fres γ (Handle.coded.code d))) (𝓛.names.obs-res γ (Handle.coded.code d)) $
    move ! (1 ∷ []) $ drop ! $
    use0 𝓛 (raw (fact 𝓤 (d.value ≡ None))) (fact_i 𝓤 (d.value ≡ None) (emp 𝓤) empty) $
    move ! (1 ∷ 0 ∷ []) $ join ! $
    use0 𝓛 (‵ (Out.own_val None (live 0 vnil ∷ []))) (none_of 𝓛 Lent) $
    nothing ! $ nothing ! $ fjoin ! $ nothing ! $ move ! (4 ∷ 0 ∷ []) $ join ! $
    returns ! (look_at ! 0 refl) $ free_all ! refl $ keep ! (0 ∷ 1 ∷ 2 ∷ 3 ∷ []) $
    by ! (leaves 𝓛 ended stays c z (live 0 vnil) None (tt, tt) (tt, tt)))
    (λ wrong. absurd wrong))
    (λ at_b at_o x held spot tests.
    let v : Val = live 1 (vcons (vptr at_b at_o) vnil) in
    let good : Good (layout Out) v = (tt, (record { fits = lit< tt }, (tt, tt))) in
    let Then = any_q (after_seq 𝓤 H (Wp 𝓤 H 𝓣.C 𝓣.Λ En (after 5 body.body) (at_return 𝓤 H En Post)) (at_return 𝓤 H En Post)) in
    rewrite ! 2 (λ (p : Ptr). ‵ (cell_at full_share Handle.mir (word p h ∷ []) b o)) spot refl $
    fsplit ! $
    sets ! (of_opd ! (load ! (through ! refl (fld ! refl (stop !))) (look_in ! 3 (sub ! 0 refl (whole !))))) refl (tt, tt) $
    sets ! (of_opd ! (get ! refl)) refl (tt, tt) $ sets ! (of_opd ! (get ! refl)) refl (tt, tt) $
    sets ! (bin ! (get ! refl) (lit ! tt) (tests_null (block_ptr at_b at_o) tests)) refl (tt, tt) $
    first ! $ branches ! (get ! refl) (λ wrong. absurd wrong) (λ _.
    first ! $ blocks ! $ sets_last ! (addr ! (through ! refl (stop !))) refl (tt, tt) $
    exec ! 𝓣.C 𝓣.Λ En wraps Then $ sets ! (of_opd ! (get ! refl)) refl (tt, tt) $
    sets_last ! (agg ! (and_then ! (lit ! tt) (and_then ! (get ! refl) (no_more !)))) refl good $
    exec ! 𝓣.C 𝓣.Λ En (after 5 body.body) (at_ret En Post) $
    sets ! (of_opd ! (get ! refl)) refl good $
    move ! (1 ∷ 2 ∷ []) $ fjoin ! $ move ! (0 ∷ 2 ∷ []) $ fjoin ! $
    move ! (2 ∷ 3 ∷ 4 ∷ 1 ∷ 0 ∷ []) $ group ! 5 $
    use1 𝓛 (later (some (λ (γ' : GName).
    ‵ (Lent.own_val (record { ref_ptr = (at_b, at_o); ghost_name = γ'; now = x }) (vptr at_b at_o ∷ []))
    ⊛ ‵ (flft κ q) ⊛ ‵ (follows Handle R γ γ' (holding d)))))
    (lends_Part 𝓛 Handle R (holding d) (named 0) κ q b o at_b at_o γ (sem 𝓛 (Rest 𝓛 d b o at_b at_o h))
    (back 𝓛 d b o at_b at_o h spot) (Handle.coded.code d) (Handle.coded.code d) x) $ await ! tt $ pick ! (λ γ'.
    let found : MutBor R.Denot = record { ref_ptr = (at_b, at_o); ghost_name = γ'; now = x } in
    split3 ! $ use1 𝓛 (‵ (Out.own_val (Some found) (v ∷ []))) (Some-of 𝓛 Lent found (vptr at_b at_o)) $
    use0 𝓛 (raw (fact 𝓤 (d.value ≡ Some x))) (fact_i 𝓤 (d.value ≡ Some x) (emp 𝓤) held) $
    move ! (3 ∷ 0 ∷ []) $ join ! $ move ! (1 ∷ []) $
    nothing ! $ nothing ! $ fjoin ! $ nothing ! $ move ! (4 ∷ 0 ∷ []) $ join ! $
    returns ! (look_at ! 0 refl) $ free_all ! refl $ keep ! (0 ∷ 1 ∷ 2 ∷ 3 ∷ []) $
    by ! (leaves 𝓛 ended stays c z v (Some found) (tt, tt) (tt, tt))))))))))
