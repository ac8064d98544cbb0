use Rattle.batcher_voter.proofs.Words.{◌∙◌, ap, subst, certificate_format, certifies_itself, WhyUnread}
use Rattle.batcher_voter.proofs.Unstarted.{floor_unread, some_bytes}
use Rattle.batcher_voter.proofs.voter.Voter.floor_certificate.Goals as goal

pub returns-in-Err-clause-why : goal.returns-in-Err-clause-why
returns-in-Err-clause-why g c =
    let format = certificate_format g.S.Certificate.OwnedCodec.format g.D.Codec.format in
    let old = c.args.self.now in
    let is = c.finalization-bytes.ensures ∙ ap (λ v. v.journal.contents.finalization) c.self.view_is in
    floor_unread format (certifies_itself (g.S.Scheme.meaning old.node.scheme)) old.journal.contents
    (λ none. some_bytes c.finalization-bytes.result.now c.if-is_empty.ensures (is ∙ none))
    c.in-Err.fault
    (subst (λ bytes. WhyUnread format (old.journal.contents.floor, bytes) c.in-Err.fault) is
    (c.in-Err.ensures.why old.journal.contents.floor))
