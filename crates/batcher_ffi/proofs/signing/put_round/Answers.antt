use Rattle.batcher_ffi.proofs.Puts.{puts_both}
use Rattle.batcher_ffi.proofs.signing.put_round.Goals as goal

pub returns : goal.returns
returns c = puts_both c.put_number-next.ensures c.put_number.ensures
