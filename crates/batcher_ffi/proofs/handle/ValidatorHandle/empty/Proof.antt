-- `empty` makes a null pointer.
use Rattle.batcher_ffi.proofs.Words.{◌≡◌, List, [], ◌∷◌, refl}
use mir.Val.{Val}
use base.Logic.{SProp, emp}
use base.Fml.{ftrue}
use prog.Wp.{WpFn}
use types.Kit.{‵, raw, ◌⊛◌, ◌$◌, ◌∵◌, !, qed, by, move, keep, split, fsplit, fjoin, feq_i, use0}
use types.Run.{lit, no_more, and_then, returns, enter}
use types.ByLocal.{alloc_all, pass_all, free_all, look_at, get, sets}
use types.Part.{agg}
use contract.Monad.{fact, fact_i}
use contract.Running.{tables}
use denote.Exit.{yes}
use denote.RattleType.{RattleType, owns}
use denote.Signature.{types_at, plain}
use denote.RawPtr.{Ptr, null_ptr}
use denote.Steps.{nothing}
use denote.Triple.Walked.{Stays, stay_dropped, walk_of, Goes-dropped}
use Rattle.batcher_ffi.proofs.Words.{handle_tells, Option, None}
use Rattle.std.specs.contracts.alloc.Global as heap
use Rattle.std.specs.contracts.impls.GlobalAllocator.TheImpl.{ghosts}
use Rattle.std.proofs.alloc.Global.TheLaws as heap_laws
use Rattle.batcher_ffi.proofs.Words.{proved_at, leaves}
use Rattle.batcher_ffi.proofs.Pointers.{word, with_one, bare_alloc, fits_null, handle_in}
use Rattle.batcher_ffi.specs.Rows.{validator_row as R}
use Rattle.batcher_ffi.specs.contracts.handle.ValidatorHandle.empty.{ended, clauses}
use Rattle.batcher_ffi.specs.contracts.handle.ValidatorHandle.empty.Key.{name}
use Rattle.batcher_ffi.proofs.handle.ValidatorHandle.empty.Statement.{statement}
use Rattle.batcher_ffi.proofs.handle.ValidatorHandle.empty.Code as code

pub empty_spec : {M : Type 1} → statement M
empty_spec 𝓤 𝓛 𝓜 𝓡 wired =
    let Z : RattleType = heap.the_row in
    let LZ = heap_laws.the_row_laws in
    let H = 𝓛.H in
    let 𝓣 = tables 𝓤 H 𝓜 𝓡 𝓡.env in
    let c = clauses 𝓛 𝓜.mem 𝓡.returns in
    let body = code.function in
    let stays : Stays ended.signature.params ended.kept = (stay_dropped (plain (λ _. Z)) yes, tt) in
    proved_at 𝓛 ended stays c 𝓜 𝓡
    (Goes-dropped 𝓛 0 (plain (λ _. Z)) yes (λ κs x f. refl), tt) name body
    (code.unfolded 𝓤 H 𝓜 𝓡 wired) (λ z are.
    let κs = z.0.0 in let a = z.0.3.0 in
    let Post : Val → SProp 𝓤 = (walk_of 𝓛 ended stays c).post z in
    let Runs : List Val → SProp 𝓤 = λ ws. WpFn 𝓤 H 𝓣.C 𝓣.Λ body ws Post in
    let none : Option R.Denot = None in
    qed 𝓛 ((‵ ftrue ⊛ ‵ (owns (types_at ended.signature.params κs) z.0.3 z.0.4))
    ∷ raw ((c κs z.0.3).requires z.1) ∷ []) ∵
    split ! $ move ! (1 ∷ []) $ fsplit ! $
    handle_tells (bare_alloc Z LZ ghosts) ! a z.0.4.0 (λ h is fits.
    let typed = fits_null Z LZ ghosts h fits in
    with_one ! Runs z.0.4.0 h is $
    enter ! 𝓣.C 𝓣.Λ body (h ∷ []) Post $ alloc_all ! (λ l. pass_all ! refl (fits, tt) $
    sets ! (agg ! (and_then ! (lit ! tt) (and_then ! (get ! refl) (no_more !)))) refl typed $
    feq_i ! Ptr null_ptr null_ptr refl $ handle_in R ! null_ptr a none h $
    use0 𝓛 (raw (fact 𝓤 (none ≡ None))) (fact_i 𝓤 (none ≡ None) (emp 𝓤) refl) $
    nothing ! $ nothing ! $ fjoin ! $
    returns ! (look_at ! 0 refl) $ free_all ! refl $ keep ! (4 ∷ 0 ∷ 2 ∷ 1 ∷ []) $
    by ! (leaves 𝓛 ended stays c z (word null_ptr h)
    (record { at = null_ptr; alloc = a; value = none }) (tt, tt) (tt, tt)))))
