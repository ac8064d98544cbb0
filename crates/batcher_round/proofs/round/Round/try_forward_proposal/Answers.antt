use Rattle.batcher_round.proofs.Words.{rules, laws_by, forward_simulates}
use Rattle.batcher_round.proofs.round.Round.try_forward_proposal.Goals as goal

pub returns-then-self-clause-answer : goal.returns-then-self-clause-answer
returns-then-self-clause-answer g c = search rules

pub returns-then-self-clause-holds : goal.returns-then-self-clause-holds
returns-then-self-clause-holds g c = search rules

pub returns-in_err-proposal-clause-answer : goal.returns-in_err-proposal-clause-answer
returns-in_err-proposal-clause-answer g c = search rules

pub returns-in_err-proposal-clause-holds : goal.returns-in_err-proposal-clause-holds
returns-in_err-proposal-clause-holds g c = search rules

pub returns-clause-answer : goal.returns-clause-answer
returns-clause-answer g c = search rules

pub returns-clause-holds : goal.returns-clause-holds
returns-clause-holds g c = search rules

pub returns-then-self-clause-meets : goal.returns-then-self-clause-meets
returns-then-self-clause-meets g c =
    let named = rw (← c.self.view_is) at (returns-then-self-clause-answer g c) in
    let moved = rw (← c.self.view_is) at (returns-then-self-clause-holds g c) in
    rw (← c.self.view_is) (λ past represents.
    forward_simulates _ (laws_by _ (g.met.S.Scheme.lawful _) c.self.invariant g.met.D.Digest.identical g.met.D.Eq.laws.refl) past _ _
    c.args.me _ represents named moved)

pub returns-in_err-proposal-clause-meets : goal.returns-in_err-proposal-clause-meets
returns-in_err-proposal-clause-meets g c =
    let named = rw (← c.self.view_is) at (returns-in_err-proposal-clause-answer g c) in
    let moved = rw (← c.self.view_is) at (returns-in_err-proposal-clause-holds g c) in
    rw (← c.self.view_is) (λ past represents.
    forward_simulates _ (laws_by _ (g.met.S.Scheme.lawful _) c.self.invariant g.met.D.Digest.identical g.met.D.Eq.laws.refl) past _ _
    c.args.me _ represents named moved)

pub returns-clause-meets : goal.returns-clause-meets
returns-clause-meets g c =
    let named = rw (← c.self.view_is) at (returns-clause-answer g c) in
    let moved = rw (← c.self.view_is) at (returns-clause-holds g c) in
    rw (← c.self.view_is) (λ past represents.
    forward_simulates _ (laws_by _ (g.met.S.Scheme.lawful _) c.self.invariant g.met.D.Digest.identical g.met.D.Eq.laws.refl) past _ _
    c.args.me _ represents named moved)
