use Rattle.batcher_ffi.proofs.Puts.{puts_both}
use Rattle.batcher_ffi.proofs.signing.put_proposal.Goals as goal

pub returns : goal.returns
returns c = puts_both c.put_round-next.ensures (puts_both c.put_number-last.ensures c.put.ensures)
