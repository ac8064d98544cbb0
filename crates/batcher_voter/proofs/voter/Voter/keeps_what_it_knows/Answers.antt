use Rattle.batcher_voter.proofs.Words.{subst, certificate_format, KeepsWhatIsKnown}
use Rattle.batcher_voter.proofs.voter.Voter.keeps_what_it_knows.Goals as goal

pub returns : goal.returns
returns g c =
    subst (λ v. KeepsWhatIsKnown (certificate_format g.S.Certificate.OwnedCodec.format g.D.Codec.format)
    v.journal v.knowledge v.waits) c.self.view_is c.self.invariant.1.1.0
