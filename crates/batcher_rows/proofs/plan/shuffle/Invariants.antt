use Rattle.batcher_rows.proofs.Words.{IsPermutation}
use Rattle.batcher_rows.proofs.plan.shuffle.Given as goal

abbrev pub invariant-loop-last : goal.invariant-loop-last
invariant-loop-last l = IsPermutation l.initial.numbers l.numbers
