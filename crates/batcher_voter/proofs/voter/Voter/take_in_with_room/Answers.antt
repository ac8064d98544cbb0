use Rattle.batcher_voter.proofs.Words.{◌≤◌, ◌∙◌, subst, sym, round_in, certificate_format, node_config, IsSafelyKept, Learns}
use Rattle.batcher_voter.proofs.Beginning.{started_with}
use Rattle.batcher_voter.proofs.Keeping.{safely_on_disk}
use Rattle.batcher_voter.proofs.voter.Voter.take_in_with_room.Goals as goal

pub returns-clause-started : goal.returns-clause-started
returns-clause-started g c =
    let old = c.args.self.now in
    started_with (node_config g.S.Scheme.meaning g.S.PublicKey.Ord.cmp g.S.Signature.PartialEq.eq
    g.D.PartialEq.eq old.node) old c.note.new.self c.args.certificate.now c.requires.certifies
    c.note.ensures.node c.note.ensures.journal
    (subst (λ s. Learns s old.knowledge c.note.new.self.knowledge) c.subject.ensures c.note.ensures.learns)
    (c.requires.epoch ∙ sym c.begins.ensures.begins.of_epoch)

pub note-requires-clause-kept : goal.note-requires-clause-kept
note-requires-clause-kept g c =
    let format = certificate_format g.S.Certificate.OwnedCodec.format g.D.Codec.format in
    let old = c.args.self.now in
    subst (λ s. old.knowledge.floor ≤ (round_in s).view.0 → IsSafelyKept format old.journal old.waits s)
    (sym c.subject.ensures)
    (λ from. safely_on_disk format old.journal c.args.certificate.now old.waits c.requires.there)
