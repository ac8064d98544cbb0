use Rattle.batcher_round.proofs.Words.{◌≡◌, subst, rules, IfErr, config, fault_or_memory, laws_by, own_same, own_simulates, own_needed}
use Rattle.batcher_round.proofs.InRound.{own_in_round}
use Rattle.batcher_round.proofs.OwnVotes.{held_by}
use Rattle.batcher_round.proofs.round.Round.accept_vote.Goals as goal

pub returns-clause-step : goal.returns-clause-step
returns-clause-step g c =
    let b = c.self.inside in
    let v = b.ballots.verifier in
    let x = config (g.S.Scheme.meaning v.scheme) g.S.PublicKey.Ord.cmp g.S.Signature.PartialEq.eq g.D.PartialEq.eq v.number b.ballots.tracker.mode in
    let after = c.accept.new.self in
    rw (← c.self.view_is, c.report_by.ensures)
    (own_in_round x b.forwarded (held_by b.ballots.tracker v.holds) (held_by after.tracker after.verifier.holds) c.args.vote c.in_ok-outcome.outcome _
    c.in_ok-outcome.ensures.step)

pub returns-clause-meets : goal.returns-clause-meets
returns-clause-meets g c =
    let step = rw (← c.self.view_is) at (returns-clause-step g c) in
    let allowed = rw (← c.self.view_is) at c.requires in
    rw (← c.self.view_is) (λ past represents.
    own_simulates _ (laws_by _ (g.met.S.Scheme.lawful _) c.self.invariant g.met.D.Digest.identical g.met.D.Eq.laws.refl) past _
    c.args.vote _ _ _ represents (allowed.belongs, allowed.attests) step)

pub returns-in_err-outcome-clause-fault : goal.returns-in_err-outcome-clause-fault
returns-in_err-outcome-clause-fault g c = search rules

pub returns-in_err-outcome-clause-named : goal.returns-in_err-outcome-clause-named
returns-in_err-outcome-clause-named g c =
    let fault = rw (← c.self.view_is) at (returns-in_err-outcome-clause-fault g c) in
    rw (← c.self.view_is) (λ past represents. subst (λ r. IfErr c.from_residual.result (λ fault. fault ≡ fault_or_memory r))
    (own_same _ past _ c.args.vote represents)
    fault)

pub returns-in_err-outcome-clause-no_memory : goal.returns-in_err-outcome-clause-no_memory
returns-in_err-outcome-clause-no_memory g c = search rules

pub returns-in_err-outcome-clause-needed : goal.returns-in_err-outcome-clause-needed
returns-in_err-outcome-clause-needed g c =
    let fault = rw (← c.self.view_is) at (returns-in_err-outcome-clause-fault g c) in
    let no_memory = rw (← c.self.view_is) at (returns-in_err-outcome-clause-no_memory g c) in
    rw (← c.self.view_is) (λ past represents. own_needed _ past _ c.args.vote _ represents fault no_memory)
