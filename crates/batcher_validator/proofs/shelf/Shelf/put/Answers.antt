use Rattle.batcher_validator.proofs.Words.{◌++◌, ◌∷◌, [], max, subst, sym, AreShelved, HasKey, ShelfView, kind_and_round, last_of}
use Rattle.batcher_validator.proofs.Looking.{last_no_less, last_up, shelved_with}
use Rattle.batcher_validator.proofs.shelf.Shelf.put.Goals as goal

pub invariant_of-self : goal.invariant_of-self
invariant_of-self g c =
    let s = c.self.inside in
    let it = c.args.certificate in
    let f = c.final_view_of-finalized in
    let n = c.view_of_kind-notarized in
    let u = c.view_of_kind-nullified in
    subst (λ items. AreShelved c.max-last_final.result
    (last_of c.max-last_final.result c.max-last_notarized.result c.max-last_nullified.result) items)
    (sym c.push_reserved.ensures.items)
    (rw (c.max-last_final.ensures, c.max-last_notarized.ensures, c.max-last_nullified.ensures)
    (shelved_with s.last_final f.result (last_of s.last_final s.last_notarized s.last_nullified)
    (last_of (max s.last_final f.result) (max s.last_notarized n.result) (max s.last_nullified u.result))
    s.certificates.items it c.self.invariant
    (subst (λ v. HasKey kind_and_round v.certificates (kind_and_round it) → ⊥) (sym c.self.view_is)
    c.if-has_one_of.ensures)
    f.ensures
    (last_no_less it s.last_final s.last_notarized s.last_nullified f.result n.result u.result f.ensures n.ensures u.ensures)
    (last_up it s.last_final s.last_notarized s.last_nullified f.result n.result u.result f.ensures n.ensures u.ensures)))
