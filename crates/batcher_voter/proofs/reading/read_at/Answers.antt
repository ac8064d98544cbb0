use Rattle.batcher_voter.proofs.Words.{◌≡◌, ◌∙◌, ap, slice_index_or, certificate_format, certifies_itself, Certified}
use Rattle.std.proofs.lemmas.List.{get_or_default}
use Rattle.batcher_voter.proofs.Readable.{certified_of, uncertified_of}
use Rattle.batcher_voter.proofs.reading.read_at.Goals as goal

pub returns-in-Ok-clause-read : goal.returns-in-Ok-clause-read
returns-in-Ok-clause-read g c = λ d.
    let format = certificate_format g.S.Certificate.OwnedCodec.format g.D.Codec.format in
    let list = c.args.list.now in
    let one = c.index-list-i.result in
    let at : one ≡ slice_index_or list c.args.i d = c.index-list-i.is ∙ get_or_default list c.args.i one d c.requires in
    certified_of format (certifies_itself (g.S.Scheme.meaning c.args.node.now.scheme)) (slice_index_or list c.args.i d)
    c.round.result c.certificate.result.now _ (c.round.ensures ∙ ap (λ (k : Certified). k.0) at)
    (c.certificate.ensures ∙ ap (λ (k : Certified). k.1) at) c.in-Ok.ensures.read

pub returns-in-Err-clause-why : goal.returns-in-Err-clause-why
returns-in-Err-clause-why g c = λ d.
    let format = certificate_format g.S.Certificate.OwnedCodec.format g.D.Codec.format in
    let list = c.args.list.now in
    let one = c.index-list-i.result in
    let at : one ≡ slice_index_or list c.args.i d = c.index-list-i.is ∙ get_or_default list c.args.i one d c.requires in
    uncertified_of format (certifies_itself (g.S.Scheme.meaning c.args.node.now.scheme)) (slice_index_or list c.args.i d)
    c.round.result c.certificate.result.now c.in-Err.fault (c.round.ensures ∙ ap (λ (k : Certified). k.0) at)
    (c.certificate.ensures ∙ ap (λ (k : Certified). k.1) at) c.in-Err.ensures.why
