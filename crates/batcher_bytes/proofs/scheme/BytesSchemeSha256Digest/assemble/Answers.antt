use Rattle.batcher_bytes.proofs.Words.{arith, ◌++◌, length}
use Rattle.batcher_bytes.proofs.Passing.{each_passed}
use Rattle.batcher_bytes.proofs.scheme.BytesSchemeSha256Digest.assemble.Goals as goal

pub listed-requires : goal.listed-requires
listed-requires g c = (
  omega arith,
  each_passed g.T.Truth c.args.self.now.keys c.args.subject (length c.args.self.now.participants)
      (c.args.prior.now ++ c.args.fresh.now) c.requires.quorum c.requires.attested,
)
