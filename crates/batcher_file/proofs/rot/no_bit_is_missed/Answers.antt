use Rattle.batcher_file.proofs.Bits.{no_bit_is_missed}
use Rattle.batcher_file.proofs.rot.no_bit_is_missed.Goals as goal

pub returns : goal.returns
returns c = no_bit_is_missed
