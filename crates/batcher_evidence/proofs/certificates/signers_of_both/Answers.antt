use Rattle.batcher_evidence.proofs.Words.{subject_certified, content_of}
use Rattle.batcher_evidence.proofs.Both.{merged_if_ok}
use Rattle.batcher_evidence.proofs.certificates.signers_of_both.Goals as goal

pub returns-clause-proof : goal.returns-clause-proof
returns-clause-proof g c =
    let m = g.S.Scheme.meaning c.args.scheme.now in
    let a = c.args.a.now in
    let b = c.args.b.now in
    let shows = g.met.S.Accountable.shows c.args.scheme.now in
    merged_if_ok m (g.met.S.Scheme.lawful c.args.scheme.now) (λ list. list.items) g.S.Accountable.shown a b
    c.shown.result.now c.shown-2.result.now c.shown.ensures.is c.shown-2.ensures.is
    (shows (subject_certified a) (content_of a) c.requires.first)
    (shows (subject_certified b) (content_of b) c.requires.second)
    c.merge.result c.merge.ensures
