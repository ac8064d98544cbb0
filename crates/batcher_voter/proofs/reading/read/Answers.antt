use Rattle.batcher_voter.proofs.Words.{All, Contains, Contains-append_left, Contains-append_right, subst, certificate_format, certifies_itself}
use Rattle.batcher_voter.proofs.Words.{IsVouched, all_in}
use Rattle.batcher_voter.proofs.Readable.{all_readable}
use Rattle.batcher_voter.proofs.reading.read.Goals as goal

pub returns-in-Ok-read_each-2-clause-readable : goal.returns-in-Ok-read_each-2-clause-readable
returns-in-Ok-read_each-2-clause-readable g c =
    let format = certificate_format g.S.Certificate.OwnedCodec.format g.D.Codec.format in
    let certifies = certifies_itself (g.S.Scheme.meaning c.args.node.now.scheme) in
    all_readable format certifies c.args.journal.now c.in-Ok.ensures.read
    (subst (λ xs. All (IsVouched format certifies) xs) c.certificates.ensures c.in-Ok-read_each.ensures.read)
    (subst (λ xs. All (IsVouched format certifies) xs) c.unwritten.ensures c.in-Ok-read_each-2.ensures.read)

pub returns-in-Err-read_each-2-clause-why : goal.returns-in-Err-read_each-2-clause-why
returns-in-Err-read_each-2-clause-why g c =
    let journal = c.args.journal.now in
    c.in-Err-read_each-2.ensures.why (all_in journal)
    (λ kept there. Contains-append_right journal.contents.certificates journal.unwritten kept
    (subst (λ xs. Contains xs kept) c.unwritten.ensures there))

pub returns-in-Err-read_each-clause-why : goal.returns-in-Err-read_each-clause-why
returns-in-Err-read_each-clause-why g c =
    let journal = c.args.journal.now in
    c.in-Err-read_each.ensures.why (all_in journal)
    (λ kept there. Contains-append_left journal.contents.certificates journal.unwritten kept
    (subst (λ xs. Contains xs kept) c.certificates.ensures there))
