use Rattle.batcher_round.proofs.Words.{IfOk-weaker, laws_by, network_needed, network_simulates}
use Rattle.batcher_round.proofs.round.Round.add_network.Goals as goal

pub returns-clause-meets : goal.returns-clause-meets
returns-clause-meets g c =
    λ past represents.
    IfOk-weaker c.take_in.result _ _ (λ answer step.
    network_simulates _ (laws_by _ (g.met.S.Scheme.lawful _) c.has_participants.ensures g.met.D.Digest.identical g.met.D.Eq.laws.refl) past _
    c.args.sender c.args.vote _ _ represents c.requires step) c.take_in.ensures.step

pub returns-clause-needed : goal.returns-clause-needed
returns-clause-needed g c =
    λ past represents. network_needed _ past _ c.args.sender c.args.vote _ represents c.take_in.ensures.no_memory c.take_in.ensures.spared
