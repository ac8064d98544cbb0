use Rattle.batcher_voter.proofs.Words.{◌≤◌, ◌∙◌, ap, refl, subst, sym, round_in, certificate_format, HasOnDisk, IsSafelyKept, Learns}
use Rattle.batcher_voter.proofs.Keeping.{safely_on_disk}
use Rattle.batcher_voter.proofs.Verifying.{learns_one, passes_one}
use Rattle.batcher_voter.proofs.voter.Voter.learn_again.Goals as goal

pub returns-then-not-is_of_epoch-clause-learned : goal.returns-then-not-is_of_epoch-clause-learned
returns-then-not-is_of_epoch-clause-learned g c =
    let old = c.args.self.now in
    passes_one _ old old c.args.certificate.now c.requires.certifies refl refl refl refl
    (λ same. c.if-not-is_of_epoch.ensures (ap (λ r. r.epoch) c.round-round.ensures ∙ same ∙ c.begins.ensures.begins.of_epoch))

pub returns-in-Ok-clause-learned : goal.returns-in-Ok-clause-learned
returns-in-Ok-clause-learned g c = λ past earlier is.
    let mid = c.make_room.new.self in
    let new = c.note.new.self in
    learns_one _ mid new c.args.certificate.now c.requires.certifies c.note.ensures.node
    (ap (λ j. j.contents) c.note.ensures.journal) (ap (λ j. j.is_open) c.note.ensures.journal)
    (subst (λ s. Learns s mid.knowledge new.knowledge) c.subject.ensures c.note.ensures.learns)
    (ap (λ r. r.epoch) (sym c.round-round.ensures) ∙ c.if-not-is_of_epoch.ensures ∙ sym c.begins.ensures.begins.of_epoch
    ∙ sym c.make_room.ensures.knowledge.epoch)
    past earlier (c.make_room.ensures.stays past earlier is)

pub note-requires-clause-kept : goal.note-requires-clause-kept
note-requires-clause-kept g c =
    let format = certificate_format g.S.Certificate.OwnedCodec.format g.D.Codec.format in
    let mid = c.make_room.new.self in
    subst (λ s. mid.knowledge.floor ≤ (round_in s).view.0 → IsSafelyKept format mid.journal mid.waits s)
    (sym c.subject.ensures)
    (λ from. safely_on_disk format mid.journal c.args.certificate.now mid.waits
    (subst (λ j. HasOnDisk format j.contents c.args.certificate.now) (sym c.make_room.ensures.journal)
    c.requires.there))
