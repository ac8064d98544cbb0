use Rattle.batcher_voter.proofs.Words.{◌≡◌, ◌⊎◌, All, subst, sym, certificate_format, node_config, Remembers, IsFinalView, IsTakenIn, HasStarted}
use Rattle.batcher_voter.proofs.Words.{certifies_itself, AreReadable, WhyNotStarted}
use Rattle.batcher_voter.proofs.Beginning.{begun}
use Rattle.batcher_voter.proofs.Readable.{not_all_started}
use Rattle.batcher_voter.proofs.voter.Voter.start.Goals as goal

pub returns-in-Ok-learn_all-clause-voting : goal.returns-in-Ok-learn_all-clause-voting
returns-in-Ok-learn_all-clause-voting g c = λ earlier keeps has.
    let config = node_config g.S.Scheme.meaning g.S.PublicKey.Ord.cmp g.S.Signature.PartialEq.eq
    g.D.PartialEq.eq in
    let first = c.in-Ok.voter in
    subst (λ node. HasStarted (config node) earlier c.learn_all.new.self) (sym c.in-Ok-learn_all.ensures.node)
    (c.in-Ok-learn_all.ensures.started earlier
    (begun (config first.node) first c.in-Ok.ensures.represents c.in-Ok.ensures.nothing c.in-Ok.ensures.highest earlier keeps
    (subst (λ journal. Remembers earlier journal.contents) (sym c.in-Ok.ensures.made.journal_is) has)))

pub returns-in-Ok-learn_all-clause-knows_floor : goal.returns-in-Ok-learn_all-clause-knows_floor
returns-in-Ok-learn_all-clause-knows_floor g c =
    let knowledge = c.learn_all.new.self.knowledge in
    subst (λ journal. (journal.contents.floor.view.0 ≡ 0) ⊎ IsFinalView knowledge journal.contents.floor.view.0)
    c.in-Ok.ensures.made.journal_is c.in-Ok-learn_all.ensures.known

pub returns-in-Ok-learn_all-clause-knows_kept : goal.returns-in-Ok-learn_all-clause-knows_kept
returns-in-Ok-learn_all-clause-knows_kept g c =
    let format = certificate_format g.S.Certificate.OwnedCodec.format g.D.Codec.format in
    let knowledge = c.learn_all.new.self.knowledge in
    subst (λ node. All (IsTakenIn format node.epoch knowledge) c.args.journal.contents.certificates)
    (sym c.in-Ok-learn_all.ensures.node)
    (subst
    (λ journal. All (IsTakenIn format c.in-Ok.voter.node.epoch knowledge) journal.contents.certificates)
    c.in-Ok.ensures.made.journal_is c.in-Ok-learn_all.ensures.kept)

pub returns-in-Err-learn_all-clause-why : goal.returns-in-Err-learn_all-clause-why
returns-in-Err-learn_all-clause-why g c =
    let format = certificate_format g.S.Certificate.OwnedCodec.format g.D.Codec.format in
    let first = c.in-Ok.voter in
    let why = subst (λ j. WhyNotStarted format j.contents (certifies_itself (g.S.Scheme.meaning first.node.scheme))
    c.in-Err-learn_all.fault) c.in-Ok.ensures.made.journal_is c.in-Err-learn_all.ensures.why in
    not_all_started format (certifies_itself (g.S.Scheme.meaning c.args.scheme.value)) c.args.journal
    c.in-Err-learn_all.fault
    (subst (λ s. WhyNotStarted format c.args.journal.contents (certifies_itself (g.S.Scheme.meaning s))
    c.in-Err-learn_all.fault) c.in-Ok.ensures.made.scheme_is why)

pub learn_all-requires-clause-readable : goal.learn_all-requires-clause-readable
learn_all-requires-clause-readable g c =
    let format = certificate_format g.S.Certificate.OwnedCodec.format g.D.Codec.format in
    let first = c.in-Ok.voter in
    subst (λ s. AreReadable format first.journal.contents (certifies_itself (g.S.Scheme.meaning s)))
    (sym c.in-Ok.ensures.made.scheme_is)
    (subst (λ j. AreReadable format j.contents (certifies_itself (g.S.Scheme.meaning c.args.scheme.value)))
    (sym c.in-Ok.ensures.made.journal_is) c.in-Ok.ensures.readable)
