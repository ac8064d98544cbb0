use Rattle.batcher_ffi.proofs.Puts.{puts_both}
use Rattle.batcher_ffi.proofs.signing.put_message.Goals as goal

pub returns : goal.returns
returns c = puts_both (puts_both c.put_number-at.ensures c.put-at.ensures) c.put_subject.ensures
