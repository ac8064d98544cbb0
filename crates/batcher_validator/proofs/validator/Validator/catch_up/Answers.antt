use Rattle.batcher_validator.proofs.Words.{◌∙◌, false, ap, refl, subst, sym, forgery_came, node_config, GivenView, VoterMeets, Answered}
use Rattle.batcher_validator.proofs.Going.{never_calm, runs}
use Rattle.batcher_validator.proofs.validator.Validator.catch_up.Goals as goal

pub returns-in-Answered-Forged-clause-meets : goal.returns-in-Answered-Forged-clause-meets
returns-in-Answered-Forged-clause-meets g c =
    let old = c.args.self.now in
    let x = node_config g.S.Scheme.meaning g.S.PublicKey.Ord.cmp g.S.Signature.PartialEq.eq
    g.D.PartialEq.eq old.voter.node in
    let event = forgery_came c.args.peer c.args.certificate in
    runs x old c.stir.new.self
    (ap (λ v. v.journal.contents) c.stir.ensures.voter ∙ ap (λ j. j.contents) c.call_ahead.ensures.journal)
    (ap (λ v. v.journal.is_open) c.stir.ensures.voter ∙ ap (λ j. j.is_open) c.call_ahead.ensures.journal)
    false old.given.presence (c.stir.ensures.given ∙ ap (λ (it : GivenView g.row.D.Denot). record it { calm = false }) c.call_ahead.ensures.given)
    (ap (λ s. s.certificates) (c.stir.ensures.shelf ∙ c.call_ahead.ensures.shelf))
    (ap (λ s. s.handed) (c.stir.ensures.shelf ∙ c.call_ahead.ensures.shelf)) event
    (λ w. refl) (λ it held. absurd cc) (λ calm. absurd (never_calm calm)) (λ past earlier is. is.hears)
    (subst (λ v. VoterMeets x old.voter v event) (sym c.stir.ensures.voter)
    (c.call_ahead.ensures.forged (c.in-Answered-Forged.is ∙ ap (λ a. Answered a) c.in-Answered-Forged.field-0-is)))
