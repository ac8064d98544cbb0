use Rattle.batcher_ffi.proofs.Holding.{verified_holds}
use Rattle.batcher_ffi.proofs.disks.started_by.Goals as goal

pub returns-in-Ok-clause-verified : goal.returns-in-Ok-clause-verified
returns-in-Ok-clause-verified c =
    verified_holds c.in-Ok.it c.args.verdicts.now c.verified.result (c.requires c.in-Ok.it c.in-Ok.ensures.made)
    c.verified.ensures.verified
