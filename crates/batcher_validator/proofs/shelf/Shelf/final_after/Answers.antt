use Rattle.batcher_validator.proofs.Words.{◌∙◌, ap, arith, subst, HaveNoFinal, IfSome, IsLowestFinal}
use Rattle.batcher_validator.proofs.shelf.Shelf.final_after.Goals as goal

pub returns-then-self-view-clause-none : goal.returns-then-self-view-clause-none
returns-then-self-view-clause-none g c = λ none.
    subst (HaveNoFinal c.args.view) (ap (λ s. s.certificates) c.self.view_is)
    (λ it there p is_of. omega (arith, c.self.invariant.no_later it there p is_of, c.if-self-view.true))

pub returns-clause-none : goal.returns-clause-none
returns-clause-none g c = λ none.
    subst (HaveNoFinal c.args.view) (c.deref.ensures.value ∙ ap (λ s. s.certificates) c.self.view_is)
    (c.final_after.ensures.none none)

pub returns-clause-lowest : goal.returns-clause-lowest
returns-clause-lowest g c =
    subst (λ cs. IfSome c.final_after.result (λ it. IsLowestFinal c.args.view cs it.1))
    (c.deref.ensures.value ∙ ap (λ s. s.certificates) c.self.view_is) c.final_after.ensures.lowest
