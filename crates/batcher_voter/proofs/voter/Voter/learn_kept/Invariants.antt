use Rattle.batcher_voter.proofs.Words.{◌≡◌, ◌<◌, ℕ, slice_index_or, Conduct, certificate_format, Certified, node_config, IsTakenIn, StaysKnown, HasStarted}
use Rattle.batcher_voter.proofs.voter.Voter.learn_kept.Given as goal

abbrev pub invariant-loop-i : goal.invariant-loop-i
invariant-loop-i g l =
    ((earlier : Conduct _)
    → HasStarted (node_config g.S.Scheme.meaning g.S.PublicKey.Ord.cmp g.S.Signature.PartialEq.eq
    g.D.PartialEq.eq l.fn.self.node) earlier l.fn.self
    → HasStarted (node_config g.S.Scheme.meaning g.S.PublicKey.Ord.cmp g.S.Signature.PartialEq.eq
    g.D.PartialEq.eq l.fn.self.node) earlier l.self)
    × (((k : ℕ) (d : Certified) → k < l.i
    → IsTakenIn (certificate_format g.S.Certificate.OwnedCodec.format g.D.Codec.format) l.fn.self.node.epoch
    l.self.knowledge (slice_index_or l.fn.self.journal.contents.certificates k d))
    × (StaysKnown l.fn.self.knowledge l.self.knowledge
    × ((l.self.node ≡ l.fn.self.node) × (l.self.journal ≡ l.fn.self.journal))))
