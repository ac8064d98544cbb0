use Rattle.batcher_voter.proofs.Words.{◌≡◌, ◌∙◌, Ok, subst, sym, certificate_format, certifies_itself, versioned, whole}
use Rattle.batcher_voter.proofs.Readable.{read_certified}
use Rattle.batcher_voter.proofs.voter.Voter.keep.Goals as goal

pub keep_bytes-requires : goal.keep_bytes-requires
keep_bytes-requires g c =
    let format = certificate_format g.S.Certificate.OwnedCodec.format g.D.Codec.format in
    read_certified format (certifies_itself (g.S.Scheme.meaning c.args.self.now.node.scheme)) c.round.result
    c.deref.result.now c.args.certificate.now
    (subst (λ bytes. whole (versioned format) bytes ≡ Ok c.args.certificate.now) (sym c.deref.ensures.value)
    c.in-Ok.ensures.read) (sym c.round.ensures) c.requires
