-- `into_unboxed` compares the pointer with null.
use Rattle.batcher_ffi.proofs.Words.{◌≡◌, List, [], ◌∷◌, refl, subst, lit<}
use mir.Val.{Val, vcons, vnil}
use base.Logic.{SProp, emp}
use base.Fml.{ftrue}
use prog.Wp.{WpFn}
use types.Kit.{‵, raw, ◌⊛◌, at_ret, ◌$◌, ◌∵◌, !, qed, by, move, keep, split, fsplit, fjoin, use0, use1}
use types.Run.{stop, fld, lit, of_opd, bin, no_more, and_then, first, branches, exec, returns, enter}
use types.ByLocal.{alloc_all, pass_all, free_all, look_at, get, get_in, sets, sets_last, env}
use types.Part.{agg, sub, whole}
use types.Match.{live}
use contract.Monad.{fact, fact_i}
use contract.Running.{tables}
use denote.Exit.{yes}
use denote.RattleType.{RattleType, owns}
use denote.Signature.{types_at, type_at, plain}
use denote.RawPtr.{Ptr, block_ptr, null_ptr, tests_null}
use denote.Steps.{nothing}
use denote.Param.{layout}
use denote.Triple.Walked.{Stays, stay_dropped, walk_of, Goes-dropped}
use Rattle.batcher_ffi.proofs.Words.{after, Good, Some-of, none_of, None, Some}
use Rattle.std.specs.contracts.alloc.Global as heap
use Rattle.std.specs.contracts.impls.GlobalAllocator.TheImpl.{ghosts}
use Rattle.std.proofs.alloc.Global.TheLaws as heap_laws
use Rattle.batcher_ffi.proofs.Words.{and_tt, proved_at, leaves}
use Rattle.batcher_ffi.proofs.Pointers.{word, with_one, fits_at, fits_null, Unboxed, unboxed_in, handle_out, either}
use Rattle.batcher_ffi.specs.Rows.{validator_row as R}
use Rattle.batcher_ffi.specs.contracts.handle.ValidatorHandle.{the_row as Handle}
use Rattle.batcher_ffi.specs.contracts.handle.ValidatorHandle.into_unboxed.{ended, clauses}
use Rattle.batcher_ffi.specs.contracts.handle.ValidatorHandle.into_unboxed.Key.{name}
use Rattle.batcher_ffi.proofs.handle.ValidatorHandle.into_unboxed.Statement.{statement}
use Rattle.batcher_ffi.proofs.handle.ValidatorHandle.into_unboxed.Code as code

pub into_unboxed_spec : {M : Type 1} → statement M
into_unboxed_spec 𝓤 𝓛 𝓜 𝓡 wired =
    let Z : RattleType = heap.the_row in
    let LZ = heap_laws.the_row_laws in
    let U : RattleType = Unboxed R Z LZ ghosts in
    let H = 𝓛.H in
    let 𝓣 = tables 𝓤 H 𝓜 𝓡 𝓡.env in
    let c = clauses 𝓛 𝓜.mem 𝓡.returns in
    let body = code.function in
    let stays : Stays ended.signature.params ended.kept =
    (stay_dropped (plain (λ _. Handle)) yes, tt) in
    proved_at 𝓛 ended stays c 𝓜 𝓡
    (Goes-dropped 𝓛 0 (plain (λ _. Handle)) yes (λ κs x f. refl), tt) name body
    (code.unfolded 𝓤 H 𝓜 𝓡 wired) (λ z are.
    let κs = z.0.0 in let d = z.0.3.0 in let a = d.alloc in
    let Post : Val → SProp 𝓤 = (walk_of 𝓛 ended stays c).post z in
    let Runs : List Val → SProp 𝓤 = λ ws. WpFn 𝓤 H 𝓣.C 𝓣.Λ body ws Post in
    let Out : RattleType = type_at ended.signature.result κs in
    qed 𝓛 ((‵ ftrue ⊛ ‵ (owns (types_at ended.signature.params κs) z.0.3 z.0.4))
    ∷ raw ((c κs z.0.3).requires z.1) ∷ []) ∵
    split ! $ move ! (1 ∷ []) $ fsplit ! $
    handle_out R ! d.at a d.value z.0.4.0 (λ h is fits. either R ! a d.at d.value
    (λ empty null.
    let v : Val = word null_ptr h in
    let typed = fits_null Z LZ ghosts h fits in
    let is' = subst (λ (p : Ptr). z.0.4.0 ≡ word p h ∷ []) null is in
    let none_fits : Good (layout Out) (live 0 vnil) = (tt, (record { fits = lit< tt }, tt)) in
    with_one ! Runs z.0.4.0 v is' $
    enter ! 𝓣.C 𝓣.Λ body (v ∷ []) Post $ alloc_all ! (λ l. pass_all ! refl (typed, tt) $
    let En = env body.locals l in
    sets ! (of_opd ! (get_in ! (fld ! refl (stop !)) (sub ! 0 refl (whole !)))) refl
    (tt, record { fits = lit< tt }) $
    sets ! (of_opd ! (get_in ! (fld ! refl (stop !)) (sub ! 1 refl (whole !)))) refl fits $
    sets ! (bin ! (get ! refl) (lit ! tt) tt) refl (tt, tt) $ first ! $ branches ! (get ! refl)
    (λ _. sets_last ! (agg ! (and_then ! (lit ! tt) (no_more !))) refl none_fits $
    exec ! 𝓣.C 𝓣.Λ En (after 4 body.body) (at_ret En Post) $
    sets ! (of_opd ! (get ! refl)) refl none_fits $
    use0 𝓛 (raw (fact 𝓤 (d.value ≡ None))) (fact_i 𝓤 (d.value ≡ None) (emp 𝓤) empty) $
    use0 𝓛 (‵ (Out.own_val None (live 0 vnil ∷ []))) (none_of 𝓛 U) $
    nothing ! $ nothing ! $ fjoin ! $
    returns ! (look_at ! 0 refl) $ free_all ! refl $ keep ! (5 ∷ 0 ∷ 1 ∷ 2 ∷ []) $
    by ! (leaves 𝓛 ended stays c z (live 0 vnil) None (tt, tt) (tt, tt)))
    (λ wrong. absurd wrong)))
    (λ b o x held place tests.
    let v : Val = word (block_ptr b o) h in
    let typed = fits_at Z LZ ghosts b o h fits in
    let is' = subst (λ (p : Ptr). z.0.4.0 ≡ word p h ∷ []) place is in
    let w : Val = live 1 (vcons v vnil) in
    let r : U.Denot = record { at = block_ptr b o; alloc = a; value = x } in
    let good : Good (layout Out) w =
    (and_tt _ typed.0, (record { fits = lit< tt }, (typed.1, tt))) in
    with_one ! Runs z.0.4.0 v is' $
    enter ! 𝓣.C 𝓣.Λ body (v ∷ []) Post $ alloc_all ! (λ l. pass_all ! refl (typed, tt) $
    let En = env body.locals l in
    sets ! (of_opd ! (get_in ! (fld ! refl (stop !)) (sub ! 0 refl (whole !)))) refl (tt, tt) $
    sets ! (of_opd ! (get_in ! (fld ! refl (stop !)) (sub ! 1 refl (whole !)))) refl fits $
    sets ! (bin ! (get ! refl) (lit ! tt) (tests_null (block_ptr b o) tests)) refl (tt, tt) $
    first ! $ branches ! (get ! refl) (λ wrong. absurd wrong) (λ _.
    sets ! (of_opd ! (get ! refl)) refl (tt, tt) $
    sets ! (agg ! (and_then ! (get ! refl) (and_then ! (get ! refl) (no_more !)))) refl typed $
    sets_last ! (agg ! (and_then ! (lit ! tt) (and_then ! (get ! refl) (no_more !)))) refl good $
    exec ! 𝓣.C 𝓣.Λ En (after 4 body.body) (at_ret En Post) $
    sets ! (of_opd ! (get ! refl)) refl good $
    unboxed_in R Z LZ ghosts ! b o h a x $
    use1 𝓛 (‵ (Out.own_val (Some r) (w ∷ []))) (Some-of 𝓛 U r v) $
    use0 𝓛 (raw (fact 𝓤 (d.value ≡ Some x))) (fact_i 𝓤 (d.value ≡ Some x) (emp 𝓤) held) $
    nothing ! $ nothing ! $ fjoin ! $
    returns ! (look_at ! 0 refl) $ free_all ! refl $ keep ! (4 ∷ 0 ∷ 2 ∷ 1 ∷ []) $
    by ! (leaves 𝓛 ended stays c z w (Some r) (tt, tt) (tt, tt)))))))
