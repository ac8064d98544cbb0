use Rattle.batcher_file.proofs.Words.{refl}
use Rattle.batcher_bytes.specs.Format.{number_bytes}
use Rattle.batcher_file.proofs.frame.header_sum.Goals as goal

pub returns : goal.returns
unfolding number_bytes
returns c = rw (c.sum_on-2.ensures, c.sum_on.ensures, c.to_be_bytes.ensures, c.to_be_bytes-2.ensures) refl
