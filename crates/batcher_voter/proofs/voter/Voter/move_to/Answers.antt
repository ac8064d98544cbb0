use Rattle.batcher_voter.proofs.Words.{◌≡◌, ◌≤◌, ◌∙◌, arith, rules, subst, sym, true, certificate_format, vote_format, raised, IsTooLongFor, RaiseLeaves}
use Rattle.batcher_voter.proofs.Words.{certifies_itself, HasFinalization, KeepsReadable}
use Rattle.batcher_voter.proofs.Readable.{raised_readable, readable_after_raise}
use Rattle.batcher_voter.proofs.Keeping.{after_raise, raised_keeps}
use Rattle.batcher_voter.proofs.voter.Voter.move_to.Goals as goal

pub invariant_of-self : goal.invariant_of-self
invariant_of-self g c =
    let was = c.self.invariant in
    let inside = c.self.inside in
    let final = c.requires.finalizes in
    let rose = c.in-Ok.ensures.raised in
    let forgets = c.forget_before.ensures in
    let round = c.args.round in
    let format = certificate_format g.S.Certificate.OwnedCodec.format g.D.Codec.format in
    let readable = raised_readable format (certifies_itself (g.S.Scheme.meaning inside.node.scheme)) inside.journal
    inside.journal.contents.owner round c.args.finalization.now
    (subst (λ v. HasFinalization format (raised v.journal.contents v.journal.unwritten v.journal.contents.owner round
    c.args.finalization.now) (certifies_itself (g.S.Scheme.meaning v.node.scheme))) (sym c.self.view_is)
    c.requires.readable) c.raise_floor.new.self rose.2 rose.0 was.1.1.1 in
    let epoch = subst (λ v. round.epoch ≡ v.node.epoch) (sym c.self.view_is) c.requires.epoch in
    let up = subst (λ v. v.node.window.finalized ≤ round.view.0) (sym c.self.view_is) c.requires.up in (
      search rules,
      (
        search rules,
        (
          raised_keeps format inside.journal
              c.raise_floor.new.self inside.journal.contents.owner round final.certificate final.proposal final.final
              final.of_round c.args.finalization.now final.encoded rose.2 rose.0 inside.knowledge
              c.forget_before.new.self forgets (epoch ∙ sym was.1.0.of_epoch)
              (rw (was.1.0.of_epoch, was.1.0.from_final) (was.1.0.floor_is rose.0))
              (omega (arith, up, was.1.0.from_final)) inside.waits c.waiting_from-self-inside.result
              (λ t here waiting. c.waiting_from-self-inside.ensures t (omega (arith, here.from_floor, forgets.floor)) waiting)
              was.1.1.0,
          subst (λ s. KeepsReadable format (certifies_itself (g.S.Scheme.meaning s)) c.raise_floor.new.self)
              (sym c.finalize.ensures.same.0) readable,
        ),
      ),
    )

pub invariant_of-self-in-Err : goal.invariant_of-self-in-Err
invariant_of-self-in-Err g c =
    let was = c.self.invariant in
    let it = c.raise_floor.ensures in
    let format = certificate_format g.S.Certificate.OwnedCodec.format g.D.Codec.format in
    let stays = after_raise format c.self.inside.journal c.raise_floor.new.self c.self.inside.knowledge c.self.inside.waits
    c.in-Err.fault c.raise_floor.result _ _
    c.in-Err.is it.memory it.full it.lower it.closed in (
      was.0,
      (
        record {
          of_epoch = was.1.0.of_epoch;
          from_final = was.1.0.from_final;
          floor_is = λ is_open. (stays.0 is_open).1 ∙ was.1.0.floor_is (stays.0 is_open).0;
        },
        (
          stays.1 was.1.1.0,
          readable_after_raise format (certifies_itself (g.S.Scheme.meaning c.self.inside.node.scheme))
              c.self.inside.journal c.raise_floor.new.self c.in-Err.fault c.raise_floor.result _ _ c.in-Err.is
              it.memory it.full it.lower it.closed was.1.1.1,
        ),
      ),
    )

pub returns-in-Ok-clause-leaves : goal.returns-in-Ok-clause-leaves
returns-in-Ok-clause-leaves g c = λ left is_open honest may.
    subst (λ v. RaiseLeaves (vote_format g.S.Signature.Codec.format g.D.Codec.format) g.D.PartialEq.eq v.journal
    v.journal.contents.owner c.args.round c.args.finalization.now left) c.self.view_is
    (c.raise_floor.ensures.leaves left (subst (λ v. v.journal.is_open ≡ true) (sym c.self.view_is) is_open)
    honest may)

pub returns-in-Err-clause-too_long : goal.returns-in-Err-clause-too_long
returns-in-Err-clause-too_long g c = λ is.
    subst (λ v. IsTooLongFor (vote_format g.S.Signature.Codec.format g.D.Codec.format) g.L.Log.is_too_small v.journal.log
    (raised v.journal.contents v.journal.unwritten v.journal.contents.owner c.args.round c.args.finalization.now)) c.self.view_is
    (c.raise_floor.ensures.too_long (c.in-Err.is ∙ is))
