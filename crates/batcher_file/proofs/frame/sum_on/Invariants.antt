use Rattle.batcher_file.proofs.Words.{◌≡◌, take, fold, summed}
use Rattle.batcher_file.proofs.frame.sum_on.Given as goal

abbrev pub invariant-loop-byte : goal.invariant-loop-byte
invariant-loop-byte l = l.sum ≡ fold summed l.initial.sum (take l.byte-index l.bytes)
