use Rattle.batcher_voter.proofs.Words.{arith, [], slice_index_or, sym, certificate_format, certifies_itself, Certified, IsVouched}
use Rattle.std.proofs.lemmas.List.{get_or_default}
use Rattle.batcher_voter.proofs.Readable.{beside_uncertified, more_at}
use Rattle.batcher_voter.proofs.reading.read_each.Goals as goal

pub loop-i-preserved : goal.loop-i-preserved
loop-i-preserved g c =
    let format = certificate_format g.S.Certificate.OwnedCodec.format g.D.Codec.format in
    more_at (IsVouched format (certifies_itself (g.S.Scheme.meaning c.args.node.now.scheme))) c.args.list.now c.loop-i.i
    c.loop-i.invariant c.in-Ok.ensures.read

pub returns-in-Err-clause-why : goal.returns-in-Err-clause-why
returns-in-Err-clause-why g c = λ contents among.
    let format = certificate_format g.S.Certificate.OwnedCodec.format g.D.Codec.format in
    let list = c.args.list.now in
    let i = c.loop-i.i in
    let d : Certified = (contents.floor, []) in
    let kept : Certified = slice_index_or list i d in
    beside_uncertified format (certifies_itself (g.S.Scheme.meaning c.args.node.now.scheme)) contents kept
    (among kept (i, c.loop-i-test.true, sym (get_or_default list i d kept c.loop-i-test.true))) c.in-Err.fault
    (c.in-Err.ensures.why d)

pub returns-clause-read : goal.returns-clause-read
returns-clause-read g c = λ k d within. c.loop-i.invariant k d (omega (arith, within, c.loop-i-test.false))
