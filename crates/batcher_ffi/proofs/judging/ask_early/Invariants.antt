use Rattle.batcher_ffi.proofs.Words.{◌≡◌, output}
use Rattle.batcher_ffi.proofs.judging.ask_early.Given as goal

-- Nothing was handed out.
abbrev pub invariant-loop-ahead : goal.invariant-loop-ahead
invariant-loop-ahead l =
    (l.it ≡ l.fn.it) × (output l.out l.stamp l.list ≡ output l.fn.out l.fn.stamp l.fn.list)
