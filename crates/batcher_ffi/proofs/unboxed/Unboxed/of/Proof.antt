-- `of` takes what `into_raw_with_allocator` gives.
use Rattle.batcher_ffi.proofs.Words.{◌≡◌, List, [], ◌∷◌, refl, ap, ◌∙◌}
use mir.Syntax.{Fn, a_type, dcons, dnil}
use mir.Val.{Val}
use mir.MapTy.{inst_fn}
use base.Logic.{SProp, emp, id⊢}
use base.Fml.{ftrue, fsep, flft}
use prog.Wp.{WpFn}
use types.Kit.{‵, raw, ◌⊛◌, some, later, ◌$◌, ◌∵◌, !, qed, by, move, keep, drop, split, split3, join, fsplit, fjoin, pick, use0, use1, await, rewrite}
use types.Run.{stop, fld, of_opd, no_more, and_then, returns, enter}
use types.ByLocal.{alloc_all, pass_all, free_all, look_at, get, get_in, sets, lands_as}
use types.Part.{agg, sub, whole}
use contract.Monad.{fact, fact_i}
use contract.Running.{tables}
use denote.Exit.{no}
use denote.RattleType.{RattleType, owns}
use denote.Signature.{types_at, plain}
use denote.RawPtr.{Ptr, block_ptr}
use denote.Steps.{nothing, only, heard}
use denote.Param.{param, bounded}
use denote.Param.Laws.{param_laws}
use denote.Triple.Spec.{triple_of}
use denote.Triple.Call.{calls_at}
use denote.Triple.Walked.{Stays, stay_dropped, walk_of}
use Rattle.batcher_ffi.proofs.Words.{Goes-blank, fm}
use Rattle.std_alloc.proofs.BoxSteps.Form as box
use Rattle.batcher_ffi.proofs.Words.{box_out, box_in, proved_at, leaves}
use Rattle.batcher_ffi.proofs.Pointers.{word, with_one, fits_at, Parts, parts_out, there, somewhere, unboxed_in}
use Rattle.std_alloc.specs.contracts.boxed.Box.into_raw_with_allocator as callee
use Rattle.std_alloc.proofs.boxed.Box.into_raw_with_allocator.Met.{met}
use Rattle.batcher_ffi.specs.contracts.unboxed.Unboxed.of.{ended, clauses}
use Rattle.batcher_ffi.specs.contracts.unboxed.Unboxed.of.Key.{name}
use Rattle.batcher_ffi.proofs.unboxed.Unboxed.of.Statement.{statement}
use Rattle.batcher_ffi.proofs.unboxed.Unboxed.of.Code as code

pub of_spec : {M : Type 1} → statement M
of_spec 𝓤 𝓛 𝓜 𝓡 wired T A L LA g d dx dd allocator glue glued =
    let R : RattleType = param 0 T in
    let Z : RattleType = param 1 A in
    let LZ = param_laws 1 A LA in
    let H = 𝓛.H in
    let 𝓣 = tables 𝓤 H 𝓜 𝓡 𝓡.env in
    let contract = ended T A g d dx dd in
    let c = clauses T A g d dx dd 𝓛 𝓜.mem 𝓡.returns in
    let at_types = bounded (a_type ∷ a_type ∷ []) (T, (A, tt))
    (dcons d (dcons dx (dcons dd dnil))) in
    let body : Fn = inst_fn at_types code.function in
    let E : box.Bx = record {
      row = T;
      laws = L;
      al = record { row = A; laws = LA; g = g; d = d; drops = dd };
    } in
    let stays : Stays contract.signature.params contract.kept =
    (stay_dropped (plain (λ _. box.B E)) no, tt) in
    proved_at 𝓛 contract stays c 𝓜 𝓡
    (Goes-blank 𝓛 2 (plain (λ _. box.B E)) no (λ κs x f. tt), tt) (name at_types) body
    (code.unfolded 𝓤 H 𝓜 𝓡 wired (T, (A, tt)) d dx dd) (λ z are.
    let κs = z.0.0 in let qs = z.0.1 in let w = z.0.3.0 in
    let Post : Val → SProp 𝓤 = (walk_of 𝓛 contract stays c).post z in
    let Runs : List Val → SProp 𝓤 = λ ws. WpFn 𝓤 H 𝓣.C 𝓣.Λ body ws Post in
    let tokens = ‵ (flft κs.0 qs.0) ⊛ ‵ (flft κs.1.0 qs.1.0) ⊛ ‵ ftrue in
    qed 𝓛 ((tokens ⊛ ‵ (owns (types_at contract.signature.params κs) z.0.3 z.0.4))
    ∷ raw ((c κs z.0.3).requires z.1) ∷ []) ∵
    split ! $ move ! (1 ∷ []) $ fsplit ! $ box_out E ! w z.0.4.0 (λ b o h place is fits.
    box_in E ! w b o w.value place refl $
    let v : Val = box.word E h b o in
    let typed = fits_at Z LZ g b o h fits in
    let apart = triple_of 𝓛 (callee.signature T A g d dd dx)
    (callee.spec T A g d dd dx 𝓛 𝓜.mem 𝓡.returns) in
    let y : apart.Ghost = ((κs, qs, tt, (w, tt), (v ∷ [], tt)), tt) in
    fjoin ! $ move ! (1 ∷ 0 ∷ []) $ join ! $ join ! $ use1 𝓛 (raw (apart.pre y)) (id⊢ 𝓤 _) $
    with_one ! Runs z.0.4.0 v is $
    enter ! 𝓣.C 𝓣.Λ body (v ∷ []) Post $ alloc_all ! (λ l. pass_all ! refl (typed, tt) $
    sets ! (of_opd ! (get ! refl)) refl typed $
    calls_at ! (fm 𝓛 𝓜 𝓡) apart
    (met 𝓤 𝓛 𝓜 𝓡 (code.calls-std_alloc::boxed::Box::into_raw_with_allocator 𝓡.env wired)
    T A L LA g d dd dx allocator glued glue) y (and_then ! (get ! refl) (no_more !)) (λ pair.
    use1 𝓛 (later (some (λ (r : Ptr × A.Denot).
    (tokens ⊛ ‵ ((Parts A LA g).own_val (r.0, (r.1, tt)) (pair ∷ [])))
    ⊛ some (λ (_ : (Unit {0} × (Unit {0} × Unit {0})) × Unit {0}).
    ‵ (fsep (fsep ftrue (fsep ftrue ftrue)) ftrue)
    ⊛ (raw (fact 𝓤 (r.1 ≡ w.alloc)) ⊛ ‵ (there R Z LZ g w.alloc r.0 w.value))))))
    (id⊢ 𝓤 _) $
    await ! tt $ pick ! (λ r. split ! $ move ! (1 ∷ []) $ pick ! (λ _. split3 ! $ drop ! $
    heard ! (r.1 ≡ w.alloc) (λ same. somewhere R Z LZ g ! w.alloc r.0 w.value (λ b' o' place'.
    move ! (1 ∷ []) $ split ! $ move ! (1 ∷ []) $
    rewrite ! 0 (λ (s : A.Denot). ‵ ((Parts A LA g).own_val (r.0, (s, tt)) (pair ∷ []))) same refl $
    parts_out A LA g ! r.0 w.alloc (pair ∷ []) (λ h' pair_is fits'.
    let typed' = fits_at Z LZ g b' o' h' fits' in
    lands_as ! (ap only (pair_is ∙ ap (λ (p : Ptr). word p h' ∷ []) place')) refl typed' $
    sets ! (of_opd ! (get_in ! (fld ! refl (stop !)) (sub ! 0 refl (whole !)))) refl (tt, tt) $
    sets ! (of_opd ! (get_in ! (fld ! refl (stop !)) (sub ! 1 refl (whole !)))) refl fits' $
    sets ! (of_opd ! (get ! refl)) refl fits' $
    sets ! (agg ! (and_then ! (get ! refl) (and_then ! (get ! refl) (no_more !)))) refl typed' $
    move ! (2 ∷ 0 ∷ []) $ unboxed_in R Z LZ g ! b' o' h' w.alloc w.value $
    use0 𝓛 (raw (fact 𝓤 (w.value ≡ w.value))) (fact_i 𝓤 (w.value ≡ w.value) (emp 𝓤) refl) $
    nothing ! $ nothing ! $ fjoin ! $
    returns ! (look_at ! 0 refl) $ free_all ! refl $ keep ! (3 ∷ 0 ∷ 2 ∷ 1 ∷ []) $
    by ! (leaves 𝓛 contract stays c z (word (block_ptr b' o') h')
    (record { at = block_ptr b' o'; alloc = w.alloc; value = w.value })
    ((tt, (tt, tt)), tt) (tt, tt)))))))))))
