use Rattle.batcher_voter.proofs.Words.{◌≢◌, ◌∙◌, [], inr, certificate_format, certifies_itself, all_in}
use Rattle.batcher_voter.proofs.Readable.{floor_is_final, floor_of_kind, floor_uncertified}
use Rattle.batcher_voter.proofs.Unstarted.{some_bytes}
use Rattle.batcher_voter.proofs.reading.read_floor.Goals as goal

pub returns-else-not-is_final-clause-read : goal.returns-else-not-is_final-clause-read
returns-else-not-is_final-clause-read g c =
    inr (floor_is_final (certificate_format g.S.Certificate.OwnedCodec.format g.D.Codec.format)
    (certifies_itself (g.S.Scheme.meaning c.args.node.now.scheme)) c.args.journal.now.contents c.floor-floor.result
    c.finalization-bytes.result.now c.in-Ok.kind c.floor-floor.ensures c.finalization-bytes.ensures c.in-Ok.ensures.read
    c.if-not-is_final.ensures)

pub returns-then-not-is_final-clause-why : goal.returns-then-not-is_final-clause-why
returns-then-not-is_final-clause-why g c =
    let journal = c.args.journal.now in
    floor_of_kind (certificate_format g.S.Certificate.OwnedCodec.format g.D.Codec.format)
    (certifies_itself (g.S.Scheme.meaning c.args.node.now.scheme)) (all_in journal) c.floor-floor.result
    c.finalization-bytes.result.now c.in-Ok.kind c.floor-floor.ensures c.finalization-bytes.ensures c.in-Ok.ensures.read
    c.if-not-is_final.ensures
    (λ none. some_bytes c.finalization-bytes.result.now c.if-is_empty.ensures (c.finalization-bytes.ensures ∙ none))

pub returns-in-Err-clause-why : goal.returns-in-Err-clause-why
returns-in-Err-clause-why g c =
    let journal = c.args.journal.now in
    floor_uncertified (certificate_format g.S.Certificate.OwnedCodec.format g.D.Codec.format)
    (certifies_itself (g.S.Scheme.meaning c.args.node.now.scheme)) (all_in journal) c.floor-floor.result
    c.finalization-bytes.result.now c.floor-floor.ensures c.finalization-bytes.ensures
    (λ none. some_bytes c.finalization-bytes.result.now c.if-is_empty.ensures (c.finalization-bytes.ensures ∙ none))
    c.in-Err.fault c.in-Err.ensures.why
