use Rattle.batcher_voter.proofs.Words.{◌≤◌, ◌∙◌, ap, subst, sym, round_in, subject_certified, certificate_came, certificate_format, node_config}
use Rattle.batcher_voter.proofs.Words.{IsSafelyKept, NodeMeets, Learns, was_recorded}
use Rattle.batcher_voter.proofs.Calling.{learning, recorded_is_learned}
use Rattle.batcher_voter.proofs.Keeping.{safely_kept}
use Rattle.batcher_voter.proofs.Readable.{if_true}
use Rattle.batcher_voter.proofs.Windowed.{same_epoch}
use Rattle.batcher_voter.proofs.voter.Voter.receive_new.Goals as goal

pub note-requires-clause-kept : goal.note-requires-clause-kept
note-requires-clause-kept g c =
    let format = certificate_format g.S.Certificate.OwnedCodec.format g.D.Codec.format in
    let mid = c.call_kept.new.self in
    let keeps = if_true _ _ (was_recorded c.in-Ok.answer) c.in-Ok.ensures.kept
    (sym c.is_recorded.ensures ∙ c.if-is_recorded.true) in
    subst (λ s. mid.knowledge.floor ≤ (round_in s).view.0 → IsSafelyKept format mid.journal mid.waits s)
    (sym c.subject.ensures)
    (λ from. safely_kept format c.args.self.now.journal mid.journal c.args.certificate.now mid.waits keeps)

pub returns-then-is_recorded-clause-meets : goal.returns-then-is_recorded-clause-meets
returns-then-is_recorded-clause-meets g c =
    let s = subject_certified c.args.certificate.now in
    let old = c.args.self.now in
    let config = node_config g.S.Scheme.meaning g.S.PublicKey.Ord.cmp g.S.Signature.PartialEq.eq g.D.PartialEq.eq in
    let event = certificate_came c.args.peer c.args.certificate.now c.in-Ok.answer in
    let recorded = sym c.is_recorded.ensures ∙ c.if-is_recorded.true in
    let keeps = if_true _ _ (was_recorded c.in-Ok.answer) c.in-Ok.ensures.kept recorded in
    learning _ old c.note.new.self event
    (subst (NodeMeets (config old.node) old.node event) (sym c.note.ensures.node) c.in-Ok.ensures.meets)
    (ap (λ j. j.contents) c.note.ensures.journal ∙ keeps.contents)
    (ap (λ j. j.is_open) c.note.ensures.journal ∙ keeps.is_open)
    (λ earlier past h. h) s
    (recorded_is_learned g.row.S-Signature.Denot c.args.peer c.args.certificate.now c.in-Ok.answer recorded)
    (subst (λ t. Learns t old.knowledge c.note.new.self.knowledge) c.subject.ensures
    (subst (λ k. Learns c.subject.result k c.note.new.self.knowledge) c.in-Ok.ensures.knowledge c.note.ensures.learns))
    (same_epoch old.node.epoch old.node.window (round_in s) c.requires.within ∙ sym c.begins.ensures.begins.of_epoch)
