use Rattle.batcher_voter.proofs.Words.{ap, sym, ◌∙◌}
use Rattle.batcher_voter.proofs.Grounding.{none_notarized, notarized_or_not}
use Rattle.batcher_voter.proofs.knowledge.Knowledge.is_notarized.Goals as goal

pub returns-in-Some-clause-known : goal.returns-in-Some-clause-known
returns-in-Some-clause-known g c = λ past has.
    notarized_or_not g.D.PartialEq.eq g.met.D.Digest.identical g.met.D.Eq.laws.refl c.args.self.now past has
    c.args.proposal.now c.requires.epoch c.requires.kept c.in-Some.known
    (ap (λ it. it.notarized) (sym c.at.ensures) ∙ c.in-Some.is) c.are_same.result
    (cc (c.in-Some.known-is, c.are_same.ensures))

pub returns-in-None-clause-known : goal.returns-in-None-clause-known
returns-in-None-clause-known g c = λ past has.
    none_notarized g.D.PartialEq.eq g.met.D.Digest.identical g.met.D.Eq.laws.refl c.args.self.now past has
    c.args.proposal.now c.requires.epoch c.requires.kept
    (ap (λ it. it.notarized) (sym c.at.ensures) ∙ c.in-None.is)
