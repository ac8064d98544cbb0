-- `into_box` hands the pointer to `from_raw`, with the right to free the block.
use Rattle.batcher_ffi.proofs.Words.{◌≡◌, List, [], ◌∷◌, refl, sym, ap, subst}
use mir.Syntax.{Fn, a_type, dcons, dnil}
use mir.Val.{Val, vptr}
use mir.MapTy.{inst_fn}
use base.Logic.{SProp, id⊢}
use base.Fml.{ftrue, flft}
use prog.Wp.{WpFn}
use types.Kit.{‵, raw, ◌⊛◌, some, later, at_ret, ◌$◌, ◌∵◌, !, qed, by, move, keep, drop, split, split3, join, fsplit, fjoin, pick, use1, await, rewrite, feq_i}
use types.Run.{stop, fld, of_opd, no_more, and_then, first, blocks, exec, returns, enter}
use types.ByLocal.{alloc_all, pass_all, free_all, look_at, get, get_in, sets, lands_last, env}
use types.Part.{sub, whole}
use contract.Monad.{fact}
use contract.BorrowLft.{◌⊑◌}
use contract.Running.{tables}
use denote.Exit.{no}
use denote.RattleType.{RattleType, owns}
use denote.Signature.{types_at, plain}
use denote.RawPtr.{block_ptr}
use denote.Steps.{nothing, only}
use denote.Param.{param, layout, bounded}
use denote.Param.Laws.{param_laws}
use denote.Triple.Clauses.{Lasts, lasts}
use denote.Triple.Spec.{triple_of}
use denote.Triple.Call.{calls_at_last}
use denote.Triple.Walked.{Stays, stay_dropped, walk_of}
use Rattle.batcher_ffi.proofs.Words.{Goes-blank, after, fm, Good}
use Rattle.std_alloc.proofs.BoxSteps.Form as box
use Rattle.batcher_ffi.proofs.Words.{box_out, box_in, proved_at, leaves}
use Rattle.batcher_ffi.proofs.Pointers.{word, with_one, fits_at, Unboxed, unboxed_out}
use Rattle.std_alloc.specs.contracts.boxed.Box.from_raw as callee
use Rattle.batcher_ffi.proofs.Words.{met}
use Rattle.batcher_ffi.specs.contracts.unboxed.Unboxed.into_box.{ended, clauses}
use Rattle.batcher_ffi.specs.contracts.unboxed.Unboxed.into_box.Key.{name}
use Rattle.batcher_ffi.proofs.unboxed.Unboxed.into_box.Statement.{statement}
use Rattle.batcher_ffi.proofs.unboxed.Unboxed.into_box.Code as code

pub into_box_spec : {M : Type 1} → statement M
into_box_spec 𝓤 𝓛 𝓜 𝓡 wired T A L LA g d dx dd allocator glue glued =
    let R : RattleType = param 0 T in
    let Z : RattleType = param 1 A in
    let LZ = param_laws 1 A LA in
    let U : RattleType = Unboxed R Z LZ g in
    let H = 𝓛.H in
    let 𝓣 = tables 𝓤 H 𝓜 𝓡 𝓡.env in
    let contract = ended T A g d dx dd in
    let c = clauses T A g d dx dd 𝓛 𝓜.mem 𝓡.returns in
    let at_types = bounded (a_type ∷ a_type ∷ []) (T, (A, tt))
    (dcons d (dcons dx (dcons dd dnil))) in
    let body : Fn = inst_fn at_types code.function in
    let stays : Stays contract.signature.params contract.kept =
    (stay_dropped (plain (λ _. U)) no, tt) in
    let E : box.Bx = record {
      row = T;
      laws = L;
      al = record { row = A; laws = LA; g = g; d = d; drops = dd };
    } in
    let B : RattleType = box.B E in
    proved_at 𝓛 contract stays c 𝓜 𝓡
    (Goes-blank 𝓛 2 (plain (λ _. U)) no (λ κs x f. tt), tt) (name at_types) body
    (code.unfolded 𝓤 H 𝓜 𝓡 wired (T, (A, tt)) d dx dd) (λ z are.
    let κs = z.0.0 in let qs = z.0.1 in let u = z.0.3.0 in
    let Post : Val → SProp 𝓤 = (walk_of 𝓛 contract stays c).post z in
    let Runs : List Val → SProp 𝓤 = λ ws. WpFn 𝓤 H 𝓣.C 𝓣.Λ body ws Post in
    let tokens = ‵ (flft κs.0 qs.0) ⊛ ‵ (flft κs.1.0 qs.1.0) ⊛ ‵ ftrue in
    qed 𝓛 ((tokens ⊛ ‵ (owns (types_at contract.signature.params κs) z.0.3 z.0.4))
    ∷ raw ((c κs z.0.3).requires z.1) ∷ []) ∵
    split ! $ move ! (1 ∷ []) $ fsplit ! $ unboxed_out R Z LZ g ! u z.0.4.0 (λ b o h is fits.
    let v : Val = word (block_ptr b o) h in
    let typed = fits_at Z LZ g b o h fits in
    let made = triple_of 𝓛 (callee.signature T A g d dd)
    (callee.spec T A g d dd 𝓛 𝓜.mem 𝓡.returns) in
    let y : made.Ghost =
    ((κs, qs, tt, (u.alloc, (block_ptr b o, tt)), (h ∷ [], (vptr b o ∷ [], tt))), u.value) in
    -- the lifetimes that the callee asks for, and what it is handed
    move ! (4 ∷ []) $
    use1 𝓛 (raw (fact 𝓤 (κs.0 ⊑ T.lives)) ⊛ raw (fact 𝓤 (κs.1.0 ⊑ A.lives)) ⊛ ‵ ftrue) (id⊢ 𝓤 _) $
    split3 ! $ move ! (2 ∷ []) $ drop ! $ move ! (1 ∷ 2 ∷ []) $ join ! $ move ! (1 ∷ 0 ∷ []) $
    join ! $ move ! (2 ∷ []) $
    feq_i ! (List Val) (vptr b o ∷ []) (vptr b o ∷ []) refl $ fjoin ! $ move ! (2 ∷ 0 ∷ []) $
    fjoin ! $ move ! (2 ∷ 0 ∷ []) $ join ! $ join ! $ use1 𝓛 (raw (made.pre y)) (id⊢ 𝓤 _) $
    with_one ! Runs z.0.4.0 v is $
    enter ! 𝓣.C 𝓣.Λ body (v ∷ []) Post $ alloc_all ! (λ l. pass_all ! refl (typed, tt) $
    sets ! (of_opd ! (get_in ! (fld ! refl (stop !)) (sub ! 0 refl (whole !)))) refl (tt, tt) $
    sets ! (of_opd ! (get_in ! (fld ! refl (stop !)) (sub ! 1 refl (whole !)))) refl fits $
    first ! $ blocks ! $ sets ! (of_opd ! (get ! refl)) refl fits $
    calls_at_last ! (fm 𝓛 𝓜 𝓡) made
    (met 𝓤 𝓛 𝓜 𝓡 (code.calls-std_alloc::boxed::Box::from_raw 𝓡.env wired)
    T A L LA g d dd allocator glued) y
    (and_then ! (get ! refl) (and_then ! (get ! refl) (no_more !))) (λ w.
    use1 𝓛 (later (some (λ (r : B.Denot). (tokens ⊛ ‵ (B.own_val r (w ∷ [])))
    ⊛ some (λ (ls : Lasts (callee.ended T A g d dd) κs y.0.3).
    ‵ (lasts (callee.ended T A g d dd) κs y.0.3 ls)
    ⊛ (raw (fact 𝓤 (r.value ≡ u.value)) ⊛ raw (fact 𝓤 (r.alloc ≡ u.alloc)))))))
    (id⊢ 𝓤 (made.post y w)) $
    await ! tt $ pick ! (λ r. split ! $ move ! (1 ∷ []) $ pick ! (λ _. split3 ! $ drop ! $
    move ! (2 ∷ []) $ split ! $ move ! (1 ∷ []) $
    box_out E ! r (w ∷ []) (λ b' o' h' place word_is fits'.
    box_in E ! r b' o' r.value place refl $
    rewrite ! 0 (λ (ws : List Val). ‵ (B.own_val r ws)) (sym word_is) refl $
    let good : Good (layout B) w =
    subst (Good (layout B)) (sym (ap only word_is)) (fits_at Z LZ g b' o' h' fits') in
    lands_last ! refl good $
    exec ! 𝓣.C 𝓣.Λ (env body.locals l) (after 3 body.body) (at_ret (env body.locals l) Post) $
    sets ! (of_opd ! (get ! refl)) refl good $ nothing ! $ nothing ! $ fjoin ! $
    returns ! (look_at ! 0 refl) $ free_all ! refl $ keep ! (2 ∷ 0 ∷ 1 ∷ 3 ∷ []) $
    by ! (leaves 𝓛 contract stays c z w r ((tt, (tt, tt)), tt) (tt, tt)))))))))
