use Rattle.batcher_validator.proofs.Looking.{found_more, lowest_more, lowest_of_all, none_after_all, none_after_first, none_after_more}
use Rattle.batcher_validator.proofs.shelf.final_after.Goals as goal

pub loop-i-init : goal.loop-i-init
loop-i-init g c = record {
  none = λ none. none_after_first c.args.view c.args.certificates.now;
  some = tt;
  lowest = tt;
}

pub loop-i-preserved : goal.loop-i-preserved
loop-i-preserved g c = record {
  none = λ none. none_after_more c.args.view c.args.certificates.now c.loop-i.i c.loop-i-test.true
      (c.loop-i.invariant.none (c.lower_of-found.ensures.none none).0)
      (c.final_at.ensures.none (c.lower_of-found.ensures.none none).1);
  some = found_more c.args.view c.args.certificates.now c.loop-i.i c.loop-i.found c.lower_of-found.result
      c.final_at.result c.loop-i.invariant.some c.final_at.ensures.some c.lower_of-found.ensures.some;
  lowest = lowest_more c.args.view c.args.certificates.now c.loop-i.i c.loop-i-test.true c.loop-i.found
      c.final_at.result c.lower_of-found.result c.loop-i.invariant.none c.loop-i.invariant.lowest
      c.final_at.ensures.none c.final_at.ensures.some c.lower_of-found.ensures.found
      c.lower_of-found.ensures.here;
}

pub returns-clause-none : goal.returns-clause-none
returns-clause-none g c = λ none.
    none_after_all c.args.view c.args.certificates.now c.loop-i.i c.loop-i-test.false
    (c.loop-i.invariant.none none)

pub returns-clause-lowest : goal.returns-clause-lowest
returns-clause-lowest g c =
    lowest_of_all c.args.view c.args.certificates.now c.loop-i.i c.loop-i.found
    c.loop-i-test.false c.loop-i.invariant.lowest
