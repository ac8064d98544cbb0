use Rattle.batcher_round.proofs.Words.{refl, ◌∙◌, laws_by, missing_simulates}
use Rattle.batcher_round.proofs.round.Round.missing_voters.Goals as goal

pub returns-clause-meets : goal.returns-clause-meets
returns-clause-meets g c =
    rw (← c.self.view_is)
    (λ past represents.
    missing_simulates _ (laws_by _ (g.met.S.Scheme.lawful _) c.self.invariant g.met.D.Digest.identical g.met.D.Eq.laws.refl) past _ _
    c.args.proposal.now c.from.result represents (c.from.ensures ∙ c.in_ok-missing.ensures) refl)
