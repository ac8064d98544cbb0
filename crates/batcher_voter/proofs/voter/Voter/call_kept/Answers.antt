use Rattle.batcher_voter.proofs.Words.{◌≤◌, ◌∙◌, ap, length, subst, sym, certificate_format, certifies_itself, numbered, KeepsReadable}
use Rattle.batcher_voter.proofs.Readable.{after_taking}
use Rattle.batcher_voter.proofs.voter.Voter.call_kept.Goals as goal

pub invariant_of-self : goal.invariant_of-self
invariant_of-self g c =
    let was = c.self.invariant in
    let inside = c.self.inside in
    let took = c.take_in_kept in
    let format = certificate_format g.S.Certificate.OwnedCodec.format g.D.Codec.format in
    let after = after_taking format (certifies_itself (g.S.Scheme.meaning inside.node.scheme)) inside.journal
    took.new.journal inside.knowledge inside.waits took.result _ _ took.ensures.kept took.ensures.certified
    took.ensures.refused in (
      subst (λ s. 1 ≤ length (g.S.Scheme.meaning s).participants) (sym took.ensures.same.0) was.0,
      (
        record {
          of_epoch = was.1.0.of_epoch ∙ sym took.ensures.same.1;
          from_final = was.1.0.from_final ∙ ap (λ w. w.finalized) (sym took.ensures.window);
          floor_is = λ is_open. (after.0.0 is_open).1 ∙ was.1.0.floor_is (after.0.0 is_open).0
              ∙ ap (λ e. numbered e inside.node.window.finalized) (sym took.ensures.same.1)
              ∙ ap (λ w. numbered took.new.node.epoch w.finalized) (sym took.ensures.window);
        },
        (
          after.0.1 was.1.1.0,
          subst (λ s. KeepsReadable format (certifies_itself (g.S.Scheme.meaning s)) took.new.journal)
              (sym took.ensures.same.0) (after.1 was.1.1.1),
        ),
      ),
    )
