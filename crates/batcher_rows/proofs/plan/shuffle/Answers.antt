use Rattle.batcher_rows.proofs.Words.{IsPermutation-trans}
use Rattle.batcher_rows.proofs.plan.shuffle.Goals as goal

pub loop-last-preserved : goal.loop-last-preserved
loop-last-preserved c = IsPermutation-trans c.args.numbers.now c.loop-last.numbers c.swap.new.self c.loop-last.invariant c.swap.ensures.permutation
