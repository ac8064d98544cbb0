use Rattle.batcher_round.proofs.Words.{◌∙◌, ap, length, length_same, of_kind}
use Rattle.batcher_round.proofs.round.Round.progress.Goals as goal

pub returns-clause-meets : goal.returns-clause-meets
returns-clause-meets g c = rw (← c.self.view_is) (λ past represents.
    let there = represents.each_kind c.args.kind in
    let verifier = c.verifier-verifier.ensures.verifier in (
      c.lengths-pending.ensures.pending
          ∙ ap (λ v. length (of_kind v.holds.pending c.args.kind)) verifier
          ∙ length_same _ _ there.pending_are,
      c.lengths-pending.ensures.verified
          ∙ ap (λ v. length (of_kind v.holds.verified c.args.kind)) verifier
          ∙ length_same _ _ there.verified_are,
    ))
