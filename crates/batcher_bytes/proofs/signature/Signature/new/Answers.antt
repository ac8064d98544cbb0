use Rattle.batcher_bytes.proofs.Words.{arith}
use Rattle.batcher_bytes.proofs.Padding.{is_padded, padded_is}
use Rattle.batcher_bytes.proofs.signature.Signature.new.Goals as goal

pub returns-clause-bytes : goal.returns-clause-bytes
returns-clause-bytes c = padded_is c.args.bytes.now _ c.copy_from_slice.ensures.after

pub invariant_of-result : goal.invariant_of-result
invariant_of-result c =
    is_padded c.args.bytes.now _ (omega (arith, c.if-bytes-gt-WIDTH.false)) c.copy_from_slice.ensures.after
