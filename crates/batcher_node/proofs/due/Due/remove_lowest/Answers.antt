use Rattle.batcher_node.proofs.Words.{sym, ◌≡◌, ◌∙◌, ◌==◌, false, arith, zero-add, nat_tests, heap_items}
use Rattle.batcher_node.proofs.DueLemmas.{same_times, none_below}
use Rattle.batcher_node.proofs.due.Due.remove_lowest.Goals as goal

pub returns-in-Some-clause-times : goal.returns-in-Some-clause-times
returns-in-Some-clause-times c = λ other. sym (same_times _ _ c.in-Some.ensures.permutation other)

pub returns-in-Some-clause-lowest : goal.returns-in-Some-clause-lowest
returns-in-Some-clause-lowest c = λ lower below.
    let apart : (c.in-Some.view.0 == lower) ≡ false = grind (arith, nat_tests, below) in
    sym (same_times _ _ c.in-Some.ensures.permutation lower)
    ∙ rw (apart, zero-add) (none_below (heap_items c.pop.new.self) c.in-Some.view (c.in-Some.ensures.below_top c.args.self.now.ordered) lower below)
