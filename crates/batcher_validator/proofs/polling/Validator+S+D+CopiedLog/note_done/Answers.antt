use Rattle.batcher_validator.proofs.Words.{ap, refl, subst, node_config, RunStays}
use Rattle.batcher_validator.proofs.Going.{run_stays}
use Rattle.batcher_validator.proofs.polling.Validator+S+D+CopiedLog.note_done.Goals as goal

pub returns-clause-stays : goal.returns-clause-stays
returns-clause-stays g c =
    let config = node_config g.S.Scheme.meaning g.S.PublicKey.Ord.cmp g.S.Signature.PartialEq.eq g.D.PartialEq.eq in
    let inside = c.self.inside in
    let noted = c.note_done.ensures.noted in
    subst
    (λ v. RunStays (config v.voter.node) v
    (record { voter = c.note_done.new.self; given = inside.given; shelf = inside.shelf }))
    c.self.view_is
    (run_stays (config inside.voter.node) (record { voter = inside.voter; given = inside.given; shelf = inside.shelf })
    (record { voter = c.note_done.new.self; given = inside.given; shelf = inside.shelf })
    (ap (λ v. v.journal.contents) noted) (ap (λ v. v.journal.is_open) noted) inside.given.calm
    inside.given.presence refl refl refl refl refl c.note_done.ensures.stays)
