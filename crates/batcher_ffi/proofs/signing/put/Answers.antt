use Rattle.batcher_ffi.proofs.Words.{arith, length}
use Rattle.std.proofs.Common.{◌+◌, ◌-◌}
use Rattle.batcher_ffi.proofs.Puts.{puts_one}
use Rattle.batcher_ffi.proofs.signing.put.Goals as goal

pub returns : goal.returns
returns c =
    puts_one c.args.bytes.now c.args.room.now c.args.at
    (c.args.at + length c.args.bytes.now - c.args.at) c.copy_from_slice.new.self
    c.copy_from_slice.ensures.after (omega (arith, c.requires)) c.requires
