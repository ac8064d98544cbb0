use Rattle.batcher_voter.proofs.Words.{ap, subst, sym, ◌∙◌, round_in, subject_certified, certificate_came, NodeMeets, Learns}
use Rattle.batcher_voter.proofs.Calling.{learning, recorded_is_learned}
use Rattle.batcher_voter.proofs.Windowed.{same_epoch}
use Rattle.batcher_voter.proofs.voter.Voter.receive_known.Goals as goal

pub returns-then-is_recorded-clause-meets : goal.returns-then-is_recorded-clause-meets
returns-then-is_recorded-clause-meets g c =
    let s = subject_certified c.args.certificate.now in
    learning _ c.args.self.now c.note_known.new.self (certificate_came c.args.peer c.args.certificate.now c.in-Ok.receipt)
    (subst (NodeMeets _ c.args.self.now.node _) (sym c.note_known.ensures.node) c.in-Ok.ensures.meets)
    (ap (λ j. j.contents) (c.note_known.ensures.journal ∙ c.in-Ok.ensures.frame.journal))
    (ap (λ j. j.is_open) (c.note_known.ensures.journal ∙ c.in-Ok.ensures.frame.journal))
    (λ earlier past h. h) s
    (recorded_is_learned g.row.S-Signature.Denot c.args.peer c.args.certificate.now c.in-Ok.receipt
    (sym c.is_recorded.ensures ∙ c.if-is_recorded.true))
    (subst (λ t. Learns t c.args.self.now.knowledge c.note_known.new.self.knowledge) c.subject.ensures
    (subst (λ k. Learns c.subject.result k c.note_known.new.self.knowledge) c.in-Ok.ensures.frame.knowledge
    c.note_known.ensures.learns))
    (same_epoch c.args.self.now.node.epoch c.args.self.now.node.window (round_in s) c.requires.within
    ∙ sym c.begins.ensures.begins.of_epoch)
