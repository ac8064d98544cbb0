use Rattle.batcher_ffi.proofs.Words.{take, AreIn}
use Rattle.batcher_ffi.proofs.writing.attestations_of.Given as goal

abbrev pub invariant-loop-flat : goal.invariant-loop-flat
invariant-loop-flat l = record {
  read : AreIn (take l.flat-index l.list) l.all.items;
}
