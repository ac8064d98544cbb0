use Rattle.batcher_bytes.specs.Messages.{certificate_format}
use Rattle.batcher_node.specs.Nodes.{node_config}
use Rattle.batcher_voter.proofs.Certifying.{config_same}
use Rattle.batcher_theorems.proofs.Calling.{are_lives}
use Rattle.batcher_theorems.proofs.calls_make_lives.Goals as goal

pub returns : goal.returns
returns g c = λ scheme called lives are.
    let meaning = g.S.Scheme.meaning in
    are_lives
    (node_config meaning g.S.PublicKey.Ord.cmp g.S.Signature.PartialEq.eq g.D.PartialEq.eq)
    (config_same meaning g.S.PublicKey.Ord.cmp g.S.Signature.PartialEq.eq g.D.PartialEq.eq)
    (certificate_format g.S.Certificate.OwnedCodec.format g.D.Codec.format) meaning (meaning scheme) called lives are
