use Rattle.batcher_ffi.proofs.Listings.{none_beyond}
use Rattle.batcher_ffi.proofs.certificates.is_within.Goals as goal

pub returns-then-count-participants : goal.returns-then-count-participants
returns-then-count-participants c =
    none_beyond c.args.participants c.in-Ok.count c.args.bytes.now _ c.in-Ok.ensures
    c.if-count-participants.true
