use Rattle.batcher_voter.proofs.Words.{subst, certificate_format, certifies_itself, WhyNotLearned}
use Rattle.batcher_voter.proofs.Unstarted.{floor_unlearned}
use Rattle.batcher_voter.proofs.Readable.{floor_certifies}
use Rattle.batcher_voter.proofs.voter.Voter.learn_floor.Goals as goal

pub returns-in-Err-take_in-clause-why : goal.returns-in-Err-take_in-clause-why
returns-in-Err-take_in-clause-why g c =
    let old = c.args.self.now in
    let certifies = certifies_itself (g.S.Scheme.meaning old.node.scheme) in
    floor_unlearned (certificate_format g.S.Certificate.OwnedCodec.format g.D.Codec.format) certifies old.journal.contents
    c.in-Ok.certificate c.in-Ok.ensures.decoded c.in-Err-take_in.fault
    (subst (λ r. WhyNotLearned certifies r c.in-Ok.certificate c.in-Err-take_in.fault) c.in-Ok.ensures.round
    c.in-Err-take_in.ensures.why)

pub take_in-requires-clause-certifies : goal.take_in-requires-clause-certifies
take_in-requires-clause-certifies g c =
    let old = c.args.self.now in
    floor_certifies (certificate_format g.S.Certificate.OwnedCodec.format g.D.Codec.format)
    (certifies_itself (g.S.Scheme.meaning old.node.scheme)) old.journal.contents c.requires.readable c.in-Ok.certificate
    c.in-Ok.ensures.decoded
