use Rattle.batcher_validator.proofs.Words.{◌≡◌, ◌∙◌, ap, subst, sym, certificate_format, Certified}
use Rattle.std.specs.Prelude.{slice_index_or}
use Rattle.std.proofs.lemmas.List.{get_or_default}
use Rattle.batcher_voter.proofs.Keeping.{beside_votes}
use Rattle.batcher_validator.proofs.validator.Validator.kept_certificate.Goals as goal

pub returns-in-Ok-clause-there : goal.returns-in-Ok-clause-there
returns-in-Ok-clause-there g c =
    let contents = c.args.self.now.voter.journal.contents in
    let one : Certified = c.index-certificates-i.result in
    let is : one ≡ slice_index_or contents.certificates c.args.i one =
    subst (λ xs. one ≡ slice_index_or xs c.args.i one)
    (c.certificates.ensures ∙ (ap (λ j. j.contents.certificates) c.journal.ensures
    ∙ ap (λ v. v.voter.journal.contents.certificates) c.self.view_is)) c.index-certificates-i.is in
    beside_votes (certificate_format g.S.Certificate.OwnedCodec.format g.D.Codec.format) contents c.in-Ok.certificate
    one.0 c.args.i c.requires
    (λ d.
    let at = sym (is ∙ get_or_default contents.certificates c.args.i one d c.requires) in
    (ap (λ (k : Certified). k.0) at, ap (λ (k : Certified). k.1) at ∙ (sym c.certificate.ensures ∙ c.in-Ok.ensures.bytes)))
    (c.in-Ok.ensures.round ∙ c.round.ensures)
