use Rattle.batcher_voter.proofs.Words.{◌≡◌, ◌≤◌, ◌∙◌, subst, sym, round_in, certificate_format, IsSafelyKept}
use Rattle.batcher_voter.proofs.Keeping.{learned_keeps}
use Rattle.batcher_voter.proofs.voter.Voter.note.Goals as goal

pub invariant_of-self : goal.invariant_of-self
invariant_of-self g c =
    let format = certificate_format g.S.Certificate.OwnedCodec.format g.D.Codec.format in
    let inside = c.self.inside in
    let was = c.self.invariant in
    let s = c.args.subject in
    let learns = c.learn.ensures in
    let epoch = subst (λ v. (round_in s).epoch ≡ v.knowledge.epoch) (sym c.self.view_is) c.requires.epoch in
    let kept = subst (λ v. v.knowledge.floor ≤ (round_in s).view.0 → IsSafelyKept format v.journal v.waits s)
    (sym c.self.view_is) c.requires.kept in (
      was.0,
      (
        record {
          of_epoch = learns.epoch ∙ was.1.0.of_epoch;
          from_final = learns.floor ∙ was.1.0.from_final;
          floor_is = was.1.0.floor_is;
        },
        (
          learned_keeps format inside.journal s inside.knowledge c.learn.new.self inside.waits inside.waits learns epoch
              (λ t waiting. waiting) kept was.1.1.0,
          was.1.1.1,
        ),
      ),
    )
