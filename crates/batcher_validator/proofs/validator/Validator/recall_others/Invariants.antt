use Rattle.batcher_validator.proofs.Words.{◌≡◌, take, certificate_format, node_config, Recalls, AreBytesOf, StaysKnown}
use Rattle.batcher_validator.proofs.validator.Validator.recall_others.Given as goal

abbrev pub invariant-loop-i : goal.invariant-loop-i
invariant-loop-i g l =
    Recalls (node_config g.S.Scheme.meaning g.S.PublicKey.Ord.cmp g.S.Signature.PartialEq.eq
    g.D.PartialEq.eq l.fn.self.voter.node) (AreBytesOf
    (certificate_format g.S.Certificate.OwnedCodec.format g.D.Codec.format)
    (take l.i l.fn.self.voter.journal.contents.certificates)) l.fn.self l.self
    × ((l.self.voter.node ≡ l.fn.self.voter.node)
    × ((l.self.voter.journal ≡ l.fn.self.voter.journal)
    × StaysKnown l.fn.self.voter.knowledge l.self.voter.knowledge))
