use Rattle.batcher_types.proofs.Words.{[]}
use Rattle.batcher_types.specs.Hashed.{key_of}
use Rattle.batcher_types.proofs.scheme.hashing.key.Goals as goal

pub returns : goal.returns
unfolding key_of
returns c =
    let message = rw (c.as_slice.ensures, c.as_slice-2.ensures, c.to_be_bytes.ensures) at
    (c.finalize.ensures _ (c.update-2.ensures _ (c.update.ensures [] c.new-hasher.ensures))) in
    message
