use Rattle.batcher_voter.proofs.Words.{◌≡◌, ◌∙◌, subst, sym, true, certificate_format, certifies_itself, vote_format, MayBeWrittenBehind, WriteLeaves}
use Rattle.batcher_voter.proofs.Keeping.{after_write}
use Rattle.batcher_voter.proofs.Readable.{readable_after_write}
use Rattle.batcher_voter.proofs.voter.Voter.write_all.Goals as goal

pub returns-clause-not_free : goal.returns-clause-not_free
returns-clause-not_free g c = λ e follow.
    (c.write.ensures.not_free e).1
    (subst (λ voter. MayBeWrittenBehind g.D.PartialEq.eq voter.journal.contents.floor
    voter.journal.contents.votes c.args.votes.now) (sym c.self.view_is) follow)

pub returns-clause-leaves : goal.returns-clause-leaves
returns-clause-leaves g c = λ left honest may.
    subst (λ voter. WriteLeaves (vote_format g.S.Signature.Codec.format g.D.Codec.format) g.D.PartialEq.eq
    voter.journal c.args.votes.now left) c.self.view_is
    (c.write.ensures.leaves left
    (subst (λ voter. voter.journal.is_open ≡ true) (sym c.self.view_is) c.requires) honest may)

pub invariant_of-self : goal.invariant_of-self
invariant_of-self g c =
    let was = c.self.invariant in
    let it = c.write.ensures in
    let format = certificate_format g.S.Certificate.OwnedCodec.format g.D.Codec.format in
    let stays = after_write format c.self.inside.journal
    c.write.new.self c.self.inside.knowledge c.self.inside.waits c.write.result c.args.votes.now _ _ _ it.written
    it.memory it.full it.not_free it.closed in (
      was.0,
      (
        record {
          of_epoch = was.1.0.of_epoch;
          from_final = was.1.0.from_final;
          floor_is = λ is_open. (stays.0 is_open).1 ∙ was.1.0.floor_is (stays.0 is_open).0;
        },
        (
          stays.1 was.1.1.0,
          readable_after_write format (certifies_itself (g.S.Scheme.meaning c.self.inside.node.scheme))
              c.self.inside.journal c.write.new.self c.write.result c.args.votes.now _ _ _ it.written it.memory it.full
              it.not_free it.closed was.1.1.1,
        ),
      ),
    )
