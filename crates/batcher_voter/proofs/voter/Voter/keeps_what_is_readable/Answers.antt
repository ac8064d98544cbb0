use Rattle.batcher_voter.proofs.Words.{subst, certificate_format, certifies_itself, KeepsReadable}
use Rattle.batcher_voter.proofs.voter.Voter.keeps_what_is_readable.Goals as goal

pub returns : goal.returns
returns g c =
    subst (λ v. KeepsReadable (certificate_format g.S.Certificate.OwnedCodec.format g.D.Codec.format)
    (certifies_itself (g.S.Scheme.meaning v.node.scheme)) v.journal) c.self.view_is c.self.invariant.1.1.1
