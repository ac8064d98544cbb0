use Rattle.batcher_verdicts.proofs.Words.{sym, subst, Notarization, Nullification, Finalization, AllTrue}
use Rattle.batcher_verdicts.proofs.Recording.{each_true}
use Rattle.batcher_verdicts.proofs.rounds.Verdicts.forget.Goals as goal

pub returns-in-Notarize-clause-truths : goal.returns-in-Notarize-clause-truths
returns-in-Notarize-clause-truths g c = λ attests all.
    let before = subst (AllTrue attests) (sym c.self.view_is) all in
    each_true attests _ (c.forget.ensures.truths attests) (before Nullification) (before Finalization)

pub returns-in-Nullify-clause-truths : goal.returns-in-Nullify-clause-truths
returns-in-Nullify-clause-truths g c = λ attests all.
    let before = subst (AllTrue attests) (sym c.self.view_is) all in
    each_true attests _ (before Notarization) (c.forget-in-Nullify.ensures.truths attests) (before Finalization)

pub returns-in-Finalize-clause-truths : goal.returns-in-Finalize-clause-truths
returns-in-Finalize-clause-truths g c = λ attests all.
    let before = subst (AllTrue attests) (sym c.self.view_is) all in
    each_true attests _ (before Notarization) (before Nullification) (c.forget-in-Finalize.ensures.truths attests)
