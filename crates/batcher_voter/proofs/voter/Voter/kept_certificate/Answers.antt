use Rattle.batcher_voter.proofs.Words.{◌≡◌, ◌∙◌, [], ap, slice_index_or, subst, certificate_format, certifies_itself, Certified, WhyUnread}
use Rattle.std.proofs.lemmas.List.{get_or_default}
use Rattle.batcher_voter.proofs.Unstarted.{at_place, beside_unread}
use Rattle.batcher_voter.proofs.voter.Voter.kept_certificate.Goals as goal

pub returns-in-Err-clause-why : goal.returns-in-Err-clause-why
returns-in-Err-clause-why g c =
    let format = certificate_format g.S.Certificate.OwnedCodec.format g.D.Codec.format in
    let contents = c.args.self.now.journal.contents in
    let certifies = certifies_itself (g.S.Scheme.meaning c.args.self.now.node.scheme) in
    let d : Certified = (contents.floor, []) in
    let kept : Certified = slice_index_or contents.certificates c.args.i d in
    let one = c.index-certificates-i.result in
    let is : one ≡ slice_index_or contents.certificates c.args.i one =
    subst (λ xs. one ≡ slice_index_or xs c.args.i one)
    (c.certificates.ensures ∙ ap (λ v. v.journal.contents.certificates) c.self.view_is) c.index-certificates-i.is in
    beside_unread format certifies contents kept (at_place format certifies contents c.args.i d c.requires) c.in-Err.fault
    (subst (λ bytes. WhyUnread format (kept.0, bytes) c.in-Err.fault)
    (c.certificate.ensures ∙ ap (λ (k : Certified). k.1) (is ∙ get_or_default contents.certificates c.args.i one d c.requires))
    (c.in-Err.ensures.why kept.0))
