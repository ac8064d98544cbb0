-- `from_unboxed` keeps the pointer.
use Rattle.batcher_ffi.proofs.Words.{◌≡◌, List, [], ◌∷◌, refl}
use mir.Val.{Val}
use base.Logic.{SProp, emp}
use base.Fml.{ftrue}
use prog.Wp.{WpFn}
use types.Kit.{‵, raw, ◌⊛◌, ◌$◌, ◌∵◌, !, qed, by, move, keep, split, fsplit, fjoin, use0}
use types.Run.{stop, fld, of_opd, no_more, and_then, returns, enter}
use types.ByLocal.{alloc_all, pass_all, free_all, look_at, get, get_in, sets}
use types.Part.{agg, sub, whole}
use contract.Monad.{fact, fact_i}
use contract.Running.{tables}
use denote.Exit.{yes}
use denote.RattleType.{RattleType, owns}
use denote.Signature.{types_at, plain}
use denote.RawPtr.{block_ptr}
use denote.Steps.{nothing}
use denote.Triple.Walked.{Stays, stay_dropped, walk_of, Goes-dropped}
use Rattle.batcher_ffi.proofs.Words.{Option, Some}
use Rattle.std.specs.contracts.alloc.Global as heap
use Rattle.std.specs.contracts.impls.GlobalAllocator.TheImpl.{ghosts}
use Rattle.std.proofs.alloc.Global.TheLaws as heap_laws
use Rattle.batcher_ffi.proofs.Words.{proved_at, leaves}
use Rattle.batcher_ffi.proofs.Pointers.{word, with_one, fits_at, Unboxed, unboxed_out, handle_in}
use Rattle.batcher_ffi.specs.Rows.{validator_row as R}
use Rattle.batcher_ffi.specs.contracts.handle.ValidatorHandle.from_unboxed.{ended, clauses}
use Rattle.batcher_ffi.specs.contracts.handle.ValidatorHandle.from_unboxed.Key.{name}
use Rattle.batcher_ffi.proofs.handle.ValidatorHandle.from_unboxed.Statement.{statement}
use Rattle.batcher_ffi.proofs.handle.ValidatorHandle.from_unboxed.Code as code

pub from_unboxed_spec : {M : Type 1} → statement M
from_unboxed_spec 𝓤 𝓛 𝓜 𝓡 wired =
    let Z : RattleType = heap.the_row in
    let LZ = heap_laws.the_row_laws in
    let U : RattleType = Unboxed R Z LZ ghosts in
    let H = 𝓛.H in
    let 𝓣 = tables 𝓤 H 𝓜 𝓡 𝓡.env in
    let c = clauses 𝓛 𝓜.mem 𝓡.returns in
    let body = code.function in
    let stays : Stays ended.signature.params ended.kept = (stay_dropped (plain (λ _. U)) yes, tt) in
    proved_at 𝓛 ended stays c 𝓜 𝓡
    (Goes-dropped 𝓛 0 (plain (λ _. U)) yes (λ κs x f. refl), tt) name body
    (code.unfolded 𝓤 H 𝓜 𝓡 wired) (λ z are.
    let κs = z.0.0 in let u = z.0.3.0 in let a = u.alloc in
    let Post : Val → SProp 𝓤 = (walk_of 𝓛 ended stays c).post z in
    let Runs : List Val → SProp 𝓤 = λ ws. WpFn 𝓤 H 𝓣.C 𝓣.Λ body ws Post in
    let held : Option R.Denot = Some u.value in
    qed 𝓛 ((‵ ftrue ⊛ ‵ (owns (types_at ended.signature.params κs) z.0.3 z.0.4))
    ∷ raw ((c κs z.0.3).requires z.1) ∷ []) ∵
    split ! $ move ! (1 ∷ []) $ fsplit ! $ unboxed_out R Z LZ ghosts ! u z.0.4.0 (λ b o h is fits.
    let v : Val = word (block_ptr b o) h in
    let typed = fits_at Z LZ ghosts b o h fits in
    with_one ! Runs z.0.4.0 v is $
    enter ! 𝓣.C 𝓣.Λ body (v ∷ []) Post $ alloc_all ! (λ l. pass_all ! refl (typed, tt) $
    sets ! (of_opd ! (get_in ! (fld ! refl (stop !)) (sub ! 0 refl (whole !)))) refl (tt, tt) $
    sets ! (of_opd ! (get_in ! (fld ! refl (stop !)) (sub ! 1 refl (whole !)))) refl fits $
    sets ! (of_opd ! (get ! refl)) refl (tt, tt) $
    sets ! (agg ! (and_then ! (get ! refl) (and_then ! (get ! refl) (no_more !)))) refl typed $
    handle_in R ! (block_ptr b o) a held h $
    use0 𝓛 (raw (fact 𝓤 (held ≡ Some u.value))) (fact_i 𝓤 (held ≡ Some u.value) (emp 𝓤) refl) $
    nothing ! $ nothing ! $ fjoin ! $
    returns ! (look_at ! 0 refl) $ free_all ! refl $ keep ! (4 ∷ 0 ∷ 2 ∷ 1 ∷ []) $
    by ! (leaves 𝓛 ended stays c z v
    (record { at = block_ptr b o; alloc = a; value = held }) (tt, tt) (tt, tt)))))
