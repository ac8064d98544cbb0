use Rattle.batcher_voter.proofs.Words.{sym, subst, certificate_format, certifies_itself, vote_format, AreReadable, IsText}
use Rattle.batcher_voter.proofs.Readable.{readable_on_disk}
use Rattle.batcher_voter.proofs.voter.Voter.leaves_what_is_readable.Goals as goal

pub returns : goal.returns
returns g c = λ left is_open honest may contents text.
    let voter = c.args.self.now in
    let format = certificate_format g.S.Certificate.OwnedCodec.format g.D.Codec.format in
    let votes = vote_format g.S.Signature.Codec.format g.D.Codec.format in
    let certifies = certifies_itself (g.S.Scheme.meaning voter.node.scheme) in
    let disk = c.is_open.ensures.on_disk is_open in
    let there = subst (λ bytes. IsText votes bytes voter.journal.contents)
    (sym (g.met.L.Log.settled voter.journal.log left honest disk.0 may)) disk.1 in
    subst (λ it. AreReadable format it certifies)
    (c.bytes_are_of_one_journal.ensures left voter.journal.contents contents there text)
    (readable_on_disk format certifies voter.journal (c.keeps_what_is_readable.ensures is_open))
