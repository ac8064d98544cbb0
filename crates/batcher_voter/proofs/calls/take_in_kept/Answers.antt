use Rattle.batcher_voter.proofs.Words.{◌≡◌, Ok, refl, subst, round_in, subject_certified, certificate_format, certifies_itself, versioned, whole}
use Rattle.batcher_voter.proofs.Readable.{read_certified}
use Rattle.batcher_voter.proofs.calls.take_in_kept.Goals as goal

pub returns-then-is_recorded-clause-certified : goal.returns-then-is_recorded-clause-certified
returns-then-is_recorded-clause-certified g c = λ recorded.
    let format = certificate_format g.S.Certificate.OwnedCodec.format g.D.Codec.format in
    let certificate = c.args.certificate.now in
    read_certified format (certifies_itself (g.S.Scheme.meaning c.args.node.now.scheme))
    (round_in (subject_certified certificate)) ((versioned format).encoding certificate) certificate
    (subst (λ bytes. whole (versioned format) bytes ≡ Ok certificate) c.in-Ok.ensures.bytes c.in-Ok.ensures.read) refl
    (c.in-Ok-take_in_verified.ensures.certifies recorded)
