use Rattle.batcher_voter.proofs.Words.{◌<◌, ℕ, slice_index_or, certificate_format, certifies_itself, Certified, IsVouched}
use Rattle.batcher_voter.proofs.reading.read_each.Given as goal

abbrev pub invariant-loop-i : goal.invariant-loop-i
invariant-loop-i g l =
    (k : ℕ) (d : Certified) → k < l.i
    → IsVouched (certificate_format g.S.Certificate.OwnedCodec.format g.D.Codec.format)
    (certifies_itself (g.S.Scheme.meaning l.node.scheme)) (slice_index_or l.list k d)
