use Rattle.batcher_ffi.proofs.Puts.{puts_both}
use Rattle.batcher_ffi.proofs.signing.put_subject.Goals as goal

pub returns-in-Notarize : goal.returns-in-Notarize
returns-in-Notarize c = rw c.in-Notarize.is (puts_both c.put-next.ensures c.put_proposal.ensures)

pub returns-in-Nullify : goal.returns-in-Nullify
returns-in-Nullify c =
    rw c.in-Nullify.is (puts_both c.put-next-in-Nullify.ensures c.put_round.ensures)

pub returns-in-Finalize : goal.returns-in-Finalize
returns-in-Finalize c =
    rw c.in-Finalize.is
    (puts_both c.put-next-in-Finalize.ensures c.put_proposal-in-Finalize.ensures)
