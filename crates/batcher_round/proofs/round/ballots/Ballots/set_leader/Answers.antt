use Rattle.batcher_round.proofs.Words.{◌∙◌, ap, false, is_some, refl, leader_answer, config, RoundState, leader_step, right_led, led_by}
use Rattle.batcher_round.proofs.round.ballots.Ballots.set_leader.Goals as goal

pub invariant_of-self : goal.invariant_of-self
invariant_of-self g c =
    let v = c.self.inside.verifier in
    rw (c.set_leader.ensures.same.0, c.set_leader.ensures.same.2)
    (right_led (g.S.Scheme.meaning v.scheme) c.self.inside.tracker v.holds c.set_leader.new.self.holds v.quorum c.self.invariant
    g.D.PartialEq.eq c.args.leader _ (is_some v.holds.leader) c.set_leader.result refl c.set_leader.ensures.again c.set_leader.ensures.refused
    c.set_leader.ensures.sets)

pub returns-clause-answer : goal.returns-clause-answer
returns-clause-answer g c =
    rw (← c.self.view_is)
    (c.set_leader.ensures.answer ∙ ap (λ o. leader_answer c.self.inside.verifier.holds.leader c.args.leader o) c.as_ref.ensures.value
    ∙ led_by c.self.inside.tracker.holds c.self.inside.verifier.holds.leader c.args.leader c.notarize-notarize.result c.notarize-notarize.ensures)

pub returns-clause-step : goal.returns-clause-step
returns-clause-step g c =
    let b = c.self.inside in
    let x = config (g.S.Scheme.meaning b.verifier.scheme) g.S.PublicKey.Ord.cmp g.S.Signature.PartialEq.eq g.D.PartialEq.eq b.verifier.number b.tracker.mode in
    let held : RoundState g.row.S-Signature.Denot g.row.D.Denot = record { tracked = b.tracker.holds; buffered = b.verifier.holds; forwarded = false } in
    rw (← c.self.view_is)
    (leader_step x held c.args.leader c.notarize-notarize.result c.set_leader.result c.set_leader.new.self.holds c.notarize-notarize.ensures
    c.set_leader.ensures.again (rw c.as_ref.ensures.value at c.set_leader.ensures.sets))
