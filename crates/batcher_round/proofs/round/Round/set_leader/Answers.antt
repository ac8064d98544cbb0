use Rattle.batcher_round.proofs.Words.{◌∙◌, ap, RoundState, config, leader_set_answer, laws_by, leader_meets}
use Rattle.batcher_round.proofs.InRound.{first_on_err, leader_in_round, leader_tracks}
use Rattle.batcher_round.proofs.OwnVotes.{held_by}
use Rattle.batcher_round.proofs.round.Round.set_leader.Goals as goal

pub returns-clause-step : goal.returns-clause-step
returns-clause-step g c =
    let b = c.self.inside in
    let v = b.ballots.verifier in
    let x = config (g.S.Scheme.meaning v.scheme) g.S.PublicKey.Ord.cmp g.S.Signature.PartialEq.eq g.D.PartialEq.eq v.number b.ballots.tracker.mode in
    let after = c.set_leader.new.self in
    rw (← c.self.view_is)
    (leader_in_round x b.forwarded (held_by b.ballots.tracker v.holds) (held_by after.tracker after.verifier.holds) c.args.leader
    c.set_leader.result c.set_leader.ensures.step)

pub returns-clause-meets : goal.returns-clause-meets
returns-clause-meets g c =
    let b = c.self.inside in
    let v = b.ballots.verifier in
    let x = config (g.S.Scheme.meaning v.scheme) g.S.PublicKey.Ord.cmp g.S.Signature.PartialEq.eq g.D.PartialEq.eq v.number b.ballots.tracker.mode in
    let laws = laws_by x (g.met.S.Scheme.lawful v.scheme) c.self.invariant g.met.D.Digest.identical g.met.D.Eq.laws.refl in
    let held : RoundState g.row.S-Signature.Denot g.row.D.Denot = record { tracked = b.ballots.tracker.holds; buffered = v.holds; forwarded = b.forwarded } in
    let after = c.set_leader.new.self in
    let tracks = leader_tracks x b.forwarded (held_by b.ballots.tracker v.holds) (held_by after.tracker after.verifier.holds) c.args.leader c.set_leader.result
    c.set_leader.ensures.step c.set_leader.ensures.all.2 in
    let step = rw tracks at (rw (← c.self.view_is) at (returns-clause-step g c)) in
    rw (← c.self.view_is, tracks)
    (λ past represents. leader_meets x laws past held c.args.leader c.set_leader.result after.verifier.holds represents c.set_leader.ensures.answer step
    (first_on_err _ _ c.set_leader.result c.set_leader.ensures.all.2))

pub returns-clause-named : goal.returns-clause-named
returns-clause-named g c = rw (← c.self.view_is) (λ past represents. c.set_leader.ensures.answer
    ∙ ap (λ l. leader_set_answer l c.args.leader) represents.leader_is)
