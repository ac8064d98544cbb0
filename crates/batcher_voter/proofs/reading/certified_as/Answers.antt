use Rattle.batcher_voter.proofs.Words.{sym, certificate_format, certifies_itself}
use Rattle.batcher_voter.proofs.Readable.{not_certified, not_read}
use Rattle.batcher_voter.proofs.reading.certified_as.Goals as goal

pub returns-in-Ok-kind_if_certified-clause-read : goal.returns-in-Ok-kind_if_certified-clause-read
returns-in-Ok-kind_if_certified-clause-read g c =
    let it = c.in-Ok-kind_if_certified.ensures in
    record {
      certificate = c.in-Ok.certificate;
      read = record { decoded = c.in-Ok.ensures.whole; of_round = it.of_round };
      is_kind = sym it.kind;
      certifies_it = it.certifies;
    }

pub returns-in-Err-kind_if_certified-clause-why : goal.returns-in-Err-kind_if_certified-clause-why
returns-in-Err-kind_if_certified-clause-why g c =
    not_certified (certificate_format g.S.Certificate.OwnedCodec.format g.D.Codec.format)
    (certifies_itself (g.S.Scheme.meaning c.args.node.now.scheme)) (c.args.round, c.args.bytes.now) c.in-Ok.certificate
    c.in-Ok.ensures.whole c.in-Err-kind_if_certified.fault c.in-Err-kind_if_certified.ensures.why

pub returns-in-Err-clause-why : goal.returns-in-Err-clause-why
returns-in-Err-clause-why g c =
    not_read (certificate_format g.S.Certificate.OwnedCodec.format g.D.Codec.format)
    (certifies_itself (g.S.Scheme.meaning c.args.node.now.scheme)) (c.args.round, c.args.bytes.now) c.in-Err.fault
    (c.in-Err.ensures.why c.args.round)
