use Rattle.batcher_voter.proofs.Words.{◌∙◌, subst, sym, certificate_format, certifies_itself, IsVouched}
use Rattle.batcher_voter.proofs.Keeping.{after_keep}
use Rattle.batcher_voter.proofs.Readable.{readable_after_keep}
use Rattle.batcher_voter.proofs.voter.Voter.keep_bytes.Goals as goal

pub invariant_of-self : goal.invariant_of-self
invariant_of-self g c =
    let was = c.self.invariant in
    let format = certificate_format g.S.Certificate.OwnedCodec.format g.D.Codec.format in
    let stays = after_keep format c.self.inside.journal c.keep.new.self c.self.inside.knowledge c.self.inside.waits c.keep.result _ c.keep.ensures.kept
    c.keep.ensures.memory in (
      was.0,
      (
        record {
          of_epoch = was.1.0.of_epoch;
          from_final = was.1.0.from_final;
          floor_is = λ is_open. (stays.0 is_open).1 ∙ was.1.0.floor_is (stays.0 is_open).0;
        },
        (
          stays.1 was.1.1.0,
          readable_after_keep format (certifies_itself (g.S.Scheme.meaning c.self.inside.node.scheme))
              c.self.inside.journal c.keep.new.self c.keep.result _ c.keep.ensures.kept c.keep.ensures.memory
              (subst (λ v. IsVouched format (certifies_itself (g.S.Scheme.meaning v.node.scheme))
              (c.args.round, c.args.bytes.now)) (sym c.self.view_is) c.requires) was.1.1.1,
        ),
      ),
    )
