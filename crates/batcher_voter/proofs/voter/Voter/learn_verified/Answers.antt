use Rattle.batcher_voter.proofs.Words.{◌∙◌, ap, refl, sym}
use Rattle.batcher_voter.proofs.Verifying.{learns_one, passes_one}
use Rattle.batcher_voter.proofs.voter.Voter.learn_verified.Goals as goal

pub returns-then-not-is_of_epoch-clause-learned : goal.returns-then-not-is_of_epoch-clause-learned
returns-then-not-is_of_epoch-clause-learned g c =
    let old = c.args.self.now in
    passes_one _ old old c.args.certificate.now c.requires refl refl refl refl
    (λ same. c.if-not-is_of_epoch.ensures (ap (λ r. r.epoch) c.round-round.ensures ∙ same ∙ c.begins.ensures.begins.of_epoch))

pub returns-in-Ok-learn_if_kept-clause-learned : goal.returns-in-Ok-learn_if_kept-clause-learned
returns-in-Ok-learn_if_kept-clause-learned g c = λ past earlier is.
    let mid = c.make_room.new.self in
    let new = c.learn_if_kept.new.self in
    learns_one _ mid new c.args.certificate.now c.requires c.learn_if_kept.ensures.frame.node
    c.learn_if_kept.ensures.frame.contents c.learn_if_kept.ensures.frame.is_open c.in-Ok-learn_if_kept.ensures.learns
    (ap (λ r. r.epoch) (sym c.round-round.ensures) ∙ c.if-not-is_of_epoch.ensures ∙ sym c.begins.ensures.begins.of_epoch
    ∙ sym c.make_room.ensures.knowledge.epoch)
    past earlier (c.make_room.ensures.stays past earlier is)
