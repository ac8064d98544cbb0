use Rattle.batcher_ffi.proofs.Words.{◌++◌, arith, length, subject_format, sha256_format}
use Rattle.std.proofs.Common.{length-append}
use Rattle.std.specs.Int.{w64}
use Rattle.batcher_bytes.specs.Format.{number_bytes}
use Rattle.batcher_ffi.proofs.Puts.{number_long}
use Rattle.batcher_ffi.proofs.signing.message_len.Goals as goal

pub returns : goal.returns
returns c =
    let namespace = c.args.namespace.now in
    omega (
      arith,
      c.subject_len.ensures.is,
      number_long (length namespace),
      length-append (number_bytes w64 (length namespace)) namespace,
      length-append (number_bytes w64 (length namespace) ++ namespace)
          ((subject_format sha256_format).encoding c.args.subject.now),
    )
