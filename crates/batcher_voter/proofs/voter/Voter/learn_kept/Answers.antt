use Rattle.batcher_voter.proofs.Words.{◌<◌, ◌∙◌, ap, length, slice_index_or, subst, sym, certificate_format, certifies_itself, node_config}
use Rattle.batcher_voter.proofs.Words.{IsTakenIn, HasStarted, WhyNotStarted, AreReadable}
use Rattle.batcher_voter.proofs.Reopening.{one_more}
use Rattle.batcher_voter.proofs.voter.Voter.learn_kept.Goals as goal

pub loop-i-preserved : goal.loop-i-preserved
loop-i-preserved g c =
    let config = node_config g.S.Scheme.meaning g.S.PublicKey.Ord.cmp g.S.Signature.PartialEq.eq g.D.PartialEq.eq in
    let format = certificate_format g.S.Certificate.OwnedCodec.format g.D.Codec.format in
    let first = c.args.self.now in
    let old = c.loop-i.self in
    let new = c.learn_at.new.self in
    let before = c.loop-i.invariant in
    let step = c.in-Ok.ensures in
    let epoch = first.node.epoch in
    let all = first.journal.contents.certificates in
    let i = c.loop-i.i in (
      λ earlier has.
          subst (λ node. HasStarted (config node) earlier old → HasStarted (config node) earlier new) before.1.1.1.0
          (step.started earlier) (before.0 earlier has),
      (
        one_more format epoch old.knowledge new.knowledge step.stays all i before.1.0
            (λ d.
            subst
            (λ journal. IsTakenIn format epoch new.knowledge (slice_index_or journal.contents.certificates i d))
            before.1.1.1.1
            (subst
            (λ node. IsTakenIn format node.epoch new.knowledge (slice_index_or old.journal.contents.certificates i d))
            before.1.1.1.0 (step.kept d))),
        (
          record {
            notarized = λ view h. step.stays.notarized view (before.1.1.0.notarized view h);
            nullified = λ view h. step.stays.nullified view (before.1.1.0.nullified view h);
            finalized = λ view h. step.stays.finalized view (before.1.1.0.finalized view h);
          },
          (step.node ∙ before.1.1.1.0, step.journal ∙ before.1.1.1.1),
        ),
      ),
    )

pub learn_at-requires-clause-readable : goal.learn_at-requires-clause-readable
learn_at-requires-clause-readable g c =
    let format = certificate_format g.S.Certificate.OwnedCodec.format g.D.Codec.format in
    let before = c.loop-i.invariant in
    subst (λ n. AreReadable format c.loop-i.self.journal.contents (certifies_itself (g.S.Scheme.meaning n.scheme)))
    (sym before.1.1.1.0)
    (subst (λ j. AreReadable format j.contents (certifies_itself (g.S.Scheme.meaning c.args.self.now.node.scheme)))
    (sym before.1.1.1.1) c.requires.readable)

pub learn_at-requires-clause-within : goal.learn_at-requires-clause-within
learn_at-requires-clause-within g c =
    subst (λ j. c.loop-i.i < length j.contents.certificates) (sym c.loop-i.invariant.1.1.1.1)
    (subst (λ xs. c.loop-i.i < length xs) (c.certificates-i-end.ensures
    ∙ ap (λ v. v.journal.contents.certificates) c.self.view_is) c.loop-i-test.true)

pub returns-in-Err-clause-why : goal.returns-in-Err-clause-why
returns-in-Err-clause-why g c =
    let format = certificate_format g.S.Certificate.OwnedCodec.format g.D.Codec.format in
    let before = c.loop-i.invariant in
    subst (λ n. WhyNotStarted format c.args.self.now.journal.contents (certifies_itself (g.S.Scheme.meaning n.scheme))
    c.in-Err.fault) before.1.1.1.0
    (subst (λ j. WhyNotStarted format j.contents (certifies_itself (g.S.Scheme.meaning c.loop-i.self.node.scheme))
    c.in-Err.fault) before.1.1.1.1 c.in-Err.ensures.why)
