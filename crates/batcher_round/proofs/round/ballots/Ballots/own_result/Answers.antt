use Rattle.batcher_round.proofs.Words.{◌≡◌, ◌∙◌, Bool, false, Option, is_some, ap, sym, proposal_of, shown, observed_opposite, own_result_of}
use Rattle.batcher_round.proofs.round.ballots.Ballots.own_result.Goals as goal

-- a test that failed on what was shown
nothing_shown : {A : Type 0} (o seen : Option A) (test : Bool) → seen ≡ o → test ≡ is_some seen
    → test ≡ false → is_some o ≡ false
nothing_shown o seen test shown_is tested failed = ap is_some (sym shown_is) ∙ sym tested ∙ failed

pub returns : goal.returns
returns g c =
    let b = c.self.inside in
    let vote = c.args.vote.now in
    let held = b.tracker.holds in
    let opposite = rw (← c.self.view_is) at c.saw_opposite.ensures in
    let none : is_some (shown (observed_opposite held vote)) ≡ false =
    nothing_shown (shown (observed_opposite held vote)) c.saw_opposite.result c.is_some.result opposite c.is_some.ensures c.if-is_some.false in
    rw (← c.self.view_is)
    (own_result_of g.D.PartialEq.eq held vote (proposal_of b.verifier.holds.selection) c.kind-2.result c.outcome_at.result
    c.unopposed_result.result none c.kind-2.ensures (rw (c.copied-selected.ensures ∙ c.proposal.ensures) at c.outcome_at.ensures)
    c.unopposed_result.ensures)
