use Rattle.batcher_voter.proofs.Words.{◌≡◌, ◌≤◌, ◌∙◌, Some, None, inr, subst, sym, round_in, certificate_format, WaitsFor}
use Rattle.batcher_voter.proofs.Keeping.{learned_keeps, none_waits, waits_itself}
use Rattle.batcher_voter.proofs.voter.Voter.note_waiting.Goals as goal

pub invariant_of-self : goal.invariant_of-self
invariant_of-self g c =
    let format = certificate_format g.S.Certificate.OwnedCodec.format g.D.Codec.format in
    let inside = c.self.inside in
    let was = c.self.invariant in
    let s = c.args.subject in
    let learns = c.learn.ensures in
    let epoch = subst (λ v. (round_in s).epoch ≡ v.knowledge.epoch) (sym c.self.view_is) c.requires.epoch in
    let none = subst (λ v. v.waits ≡ None) (sym c.self.view_is) c.requires.none in (
      was.0,
      (
        record {
          of_epoch = learns.epoch ∙ was.1.0.of_epoch;
          from_final = learns.floor ∙ was.1.0.from_final;
          floor_is = was.1.0.floor_is;
        },
        (
          learned_keeps format inside.journal s inside.knowledge c.learn.new.self inside.waits (Some s) learns epoch
              (λ t waiting. none_waits s t (subst (λ o. WaitsFor o t) none waiting))
              (λ from is_open t does same. inr (waits_itself s t does)) was.1.1.0,
          was.1.1.1,
        ),
      ),
    )
