use Rattle.batcher_voter.proofs.Words.{All, subst, certificate_format, certifies_itself, sym, AreReadable, IsTakenIn, WhyNotStarted}
use Rattle.batcher_voter.proofs.voter.Voter.learn_all.Goals as goal

pub returns-in-Ok-learn_kept-clause-kept : goal.returns-in-Ok-learn_kept-clause-kept
returns-in-Ok-learn_kept-clause-kept g c =
    let format = certificate_format g.S.Certificate.OwnedCodec.format g.D.Codec.format in
    let knowledge = c.learn_kept.new.self.knowledge in
    let of_node =
    subst
    (λ node. All (IsTakenIn format node.epoch knowledge) c.learn_floor.new.self.journal.contents.certificates)
    c.in-Ok.ensures.node c.in-Ok-learn_kept.ensures.kept in
    subst
    (λ journal. All (IsTakenIn format c.args.self.now.node.epoch knowledge) journal.contents.certificates)
    c.in-Ok.ensures.journal of_node

pub returns-in-Err-learn_kept-clause-why : goal.returns-in-Err-learn_kept-clause-why
returns-in-Err-learn_kept-clause-why g c =
    let format = certificate_format g.S.Certificate.OwnedCodec.format g.D.Codec.format in
    let mid = c.learn_floor.new.self in
    subst (λ n. WhyNotStarted format c.args.self.now.journal.contents (certifies_itself (g.S.Scheme.meaning n.scheme))
    c.in-Err-learn_kept.fault) c.in-Ok.ensures.node
    (subst (λ j. WhyNotStarted format j.contents (certifies_itself (g.S.Scheme.meaning mid.node.scheme))
    c.in-Err-learn_kept.fault) c.in-Ok.ensures.journal c.in-Err-learn_kept.ensures.why)

pub learn_kept-requires : goal.learn_kept-requires
learn_kept-requires g c =
    let format = certificate_format g.S.Certificate.OwnedCodec.format g.D.Codec.format in
    let old = c.args.self.now in
    let mid = c.learn_floor.new.self in
    record {
      readable = subst (λ n. AreReadable format mid.journal.contents (certifies_itself (g.S.Scheme.meaning n.scheme)))
          (sym c.in-Ok.ensures.node)
          (subst (λ j. AreReadable format j.contents (certifies_itself (g.S.Scheme.meaning old.node.scheme)))
          (sym c.in-Ok.ensures.journal) c.requires.readable);
    }
