use Rattle.batcher_file.proofs.Words.{rules, byte_more}
use Rattle.std.proofs.Common.{take_all}
use Rattle.batcher_file.proofs.frame.sum_on.Goals as goal

pub loop-byte-preserved : goal.loop-byte-preserved
loop-byte-preserved c = search (rules, byte_more)

pub returns : goal.returns
returns c = search (rules, take_all)
