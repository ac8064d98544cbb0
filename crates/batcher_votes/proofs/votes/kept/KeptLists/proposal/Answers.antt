use Rattle.batcher_votes.proofs.Words.{◌≡◌, ◌∙◌, sym, ap, arith, common_steps, gets, option_copied, slice_get}
use Rattle.batcher_votes.proofs.TrackerLemmas.KeptLists.{none_carried, finalize_carried}
use Rattle.batcher_votes.proofs.votes.kept.KeptLists.proposal.Goals as goal

pub returns-in-Nullification : goal.returns-in-Nullification
returns-in-Nullification g c = rw (c.in-Nullification.is, c.in-Kept.is) (sym (none_carried c.args.self.now.nullifies.items c.in-Kept.index))

pub returns-in_ok-get-in-Finalization : goal.returns-in_ok-get-in-Finalization
returns-in_ok-get-in-Finalization g c =
    let got : option_copied c.get-in-Finalization.result ≡ slice_get c.args.self.now.finalizes.items c.in-Kept.index = grind
    (arith, common_steps, gets, c.get-in-Finalization.ensures.lookup, c.deref-in-Finalization.ensures.value) in
    let there = sym got ∙ ap option_copied c.in_ok-get-in-Finalization.was in
    rw (c.in-Finalization.is, c.in-Kept.is)
    (sym (finalize_carried c.args.self.now.finalizes.items c.in-Kept.index c.in_ok-get-in-Finalization.field-0.now there))
