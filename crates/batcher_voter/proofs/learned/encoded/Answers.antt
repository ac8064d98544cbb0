use Rattle.batcher_voter.proofs.Words.{◌++◌, ◌∙◌, ap, certificate_format, versioned}
use Rattle.batcher_bytes.specs.Lawful.{certificate_is_exact}
use Rattle.batcher_voter.proofs.Readable.{read_again}
use Rattle.batcher_voter.proofs.learned.encoded.Goals as goal

pub returns-in-Ok-clause-read : goal.returns-in-Ok-clause-read
returns-in-Ok-clause-read g c =
    let format = certificate_format g.C.OwnedCodec.format g.D.Codec.format in
    read_again format
    (certificate_is_exact g.C.OwnedCodec.format g.D.Codec.format g.met.C.OwnedCodec.exact g.met.D.Codec.exact)
    c.args.certificate.now c.encode_owned.new.out.items c.in-Ok.ensures.value
    (c.in-Ok.ensures.ok ∙ ap (λ before. before ++ (versioned format).encoding c.args.certificate.now)
    c.new-bytes.ensures.items)
