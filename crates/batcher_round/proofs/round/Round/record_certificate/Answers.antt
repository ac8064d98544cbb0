use Rattle.batcher_round.proofs.Words.{Bool, IfOk-weaker, config, AfterCertificate, Simulates, CertificateCall, CertificateAnswer, RoundState, laws_by}
use Rattle.batcher_round.proofs.Words.{certificate_simulates, certificate_needed}
use Rattle.batcher_round.proofs.InRound.{certificate_in_round}
use Rattle.batcher_round.proofs.OwnVotes.{held_by}
use Rattle.batcher_round.proofs.round.Round.record_certificate.Goals as goal

pub returns-clause-step : goal.returns-clause-step
returns-clause-step g c =
    let b = c.self.inside in
    let v = b.ballots.verifier in
    let x = config (g.S.Scheme.meaning v.scheme) g.S.PublicKey.Ord.cmp g.S.Signature.PartialEq.eq g.D.PartialEq.eq v.number b.ballots.tracker.mode in
    let after = c.complete.new.self in
    rw (← c.self.view_is)
    (certificate_in_round x b.forwarded (held_by b.ballots.tracker v.holds) (held_by after.tracker after.verifier.holds) c.args.certificate.now
    c.complete.result c.complete.ensures.step)

pub returns-clause-meets : goal.returns-clause-meets
returns-clause-meets g c =
    let b = c.self.inside in
    let v = b.ballots.verifier in
    let x = config (g.S.Scheme.meaning v.scheme) g.S.PublicKey.Ord.cmp g.S.Signature.PartialEq.eq g.D.PartialEq.eq v.number b.ballots.tracker.mode in
    let laws = laws_by x (g.met.S.Scheme.lawful v.scheme) c.self.invariant g.met.D.Digest.identical g.met.D.Eq.laws.refl in
    let held : RoundState g.row.S-Signature.Denot g.row.D.Denot = record { tracked = b.ballots.tracker.holds; buffered = v.holds; forwarded = b.forwarded } in
    let after = c.complete.new.self in
    let new : RoundState g.row.S-Signature.Denot g.row.D.Denot = record {
      tracked = after.tracker.holds;
      buffered = after.verifier.holds;
      forwarded =
          b.forwarded;
    } in
    let certificate = c.args.certificate.now in
    let step = rw (← c.self.view_is) at (returns-clause-step g c) in
    let allowed = rw (← c.self.view_is) at c.requires in
    rw (← c.self.view_is)
    (λ past represents. IfOk-weaker c.complete.result (λ (answer : Bool). AfterCertificate x held certificate answer new)
    (λ (answer : Bool). Simulates x past held (CertificateCall certificate, CertificateAnswer answer) new)
    (λ answer done. certificate_simulates x laws past held certificate answer new represents done allowed) step)

pub returns-clause-needed : goal.returns-clause-needed
returns-clause-needed g c =
    rw (← c.self.view_is) (λ past represents. certificate_needed _ past _ c.args.certificate.now c.complete.result represents c.complete.ensures.no_memory)
