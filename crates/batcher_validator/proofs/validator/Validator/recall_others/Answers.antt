use Rattle.batcher_validator.proofs.Words.{◌∙◌, refl, subst, certificate_format, node_config, IsAtPlace, Recalls}
use Rattle.batcher_validator.proofs.Reading.{bytes_among, bytes_more, none_at_first, recalls_both, recalls_none}
use Rattle.batcher_voter.proofs.Reopening.{stays_both}
use Rattle.batcher_validator.proofs.Words.{AreBytesOf, ap, arith, certifies_itself, length, sym, take_all, ◌<◌, ◌≤◌}
use Rattle.batcher_voter.specs.Unstarted.{WhyNotStarted}
use Rattle.batcher_validator.proofs.validator.Validator.recall_others.Goals as goal

pub loop-i-init : goal.loop-i-init
loop-i-init g c = (
  recalls_none (node_config g.S.Scheme.meaning g.S.PublicKey.Ord.cmp g.S.Signature.PartialEq.eq g.D.PartialEq.eq
      c.args.self.now.voter.node) _ c.args.self.now
      (none_at_first (certificate_format g.S.Certificate.OwnedCodec.format g.D.Codec.format)
      c.args.self.now.voter.journal.contents.certificates),
  (
    refl,
    (
      refl,
      record {
        notarized = λ view known. known;
        nullified = λ view known. known;
        finalized = λ view known. known;
      },
    ),
  ),
)

pub loop-i-preserved : goal.loop-i-preserved
loop-i-preserved g c =
    let config = node_config g.S.Scheme.meaning g.S.PublicKey.Ord.cmp g.S.Signature.PartialEq.eq g.D.PartialEq.eq in
    let format = certificate_format g.S.Certificate.OwnedCodec.format g.D.Codec.format in
    let first = c.args.self.now in
    let before = c.loop-i.invariant in (
      recalls_both (config first.voter.node) _ _ _ first c.loop-i.self c.recall_at.new.self before.0
          (subst (λ n. Recalls (config n) (IsAtPlace format first.voter.journal.contents.certificates c.loop-i.i)
          c.loop-i.self c.recall_at.new.self) before.1.0
          (subst (λ j. Recalls (config c.loop-i.self.voter.node) (IsAtPlace format j.contents.certificates c.loop-i.i)
          c.loop-i.self c.recall_at.new.self) before.1.1.0 c.in-Ok.ensures.recalls))
          (bytes_more format first.voter.journal.contents.certificates c.loop-i.i)
          (bytes_among format first.voter.journal.contents.certificates c.loop-i.i),
      (
        c.recall_at.ensures.node ∙ before.1.0,
        (
          c.recall_at.ensures.journal ∙ before.1.1.0,
          stays_both first.voter.knowledge c.loop-i.self.voter.knowledge c.recall_at.new.self.voter.knowledge
              before.1.1.1 c.in-Ok.ensures.knows,
        ),
      ),
    )

pub returns-clause-recalls : goal.returns-clause-recalls
returns-clause-recalls g c =
    let config = node_config g.S.Scheme.meaning g.S.PublicKey.Ord.cmp g.S.Signature.PartialEq.eq g.D.PartialEq.eq in
    let format = certificate_format g.S.Certificate.OwnedCodec.format g.D.Codec.format in
    let first = c.args.self.now in
    let all = first.voter.journal.contents.certificates in
    let up : length c.certificates-i-end.result.now ≤ c.loop-i.i = omega (arith, c.loop-i-test.false) in
    let end : length all ≤ c.loop-i.i =
    subst (λ xs. length xs ≤ c.loop-i.i) (c.certificates-i-end.ensures
    ∙ (ap (λ j. j.contents.certificates) c.journal.ensures ∙ ap (λ v. v.voter.journal.contents.certificates) c.self.view_is)) up in
    subst (λ xs. Recalls (config first.voter.node) (AreBytesOf format xs) first c.loop-i.self)
    (take_all c.loop-i.i all end) c.loop-i.invariant.0

pub recall_at-requires : goal.recall_at-requires
recall_at-requires g c =
    subst (λ j. c.loop-i.i < length j.contents.certificates) (sym c.loop-i.invariant.1.1.0)
    (subst (λ xs. c.loop-i.i < length xs) (c.certificates-i-end.ensures
    ∙ (ap (λ j. j.contents.certificates) c.journal.ensures ∙ ap (λ v. v.voter.journal.contents.certificates) c.self.view_is))
    c.loop-i-test.true)

pub returns-in-Err-clause-why : goal.returns-in-Err-clause-why
returns-in-Err-clause-why g c =
    let format = certificate_format g.S.Certificate.OwnedCodec.format g.D.Codec.format in
    let before = c.loop-i.invariant in
    subst (λ n. WhyNotStarted format c.args.self.now.voter.journal.contents
    (certifies_itself (g.S.Scheme.meaning n.scheme)) c.in-Err.fault) before.1.0
    (subst (λ j. WhyNotStarted format j.contents (certifies_itself (g.S.Scheme.meaning c.loop-i.self.voter.node.scheme))
    c.in-Err.fault) before.1.1.0 c.in-Err.ensures.why)
