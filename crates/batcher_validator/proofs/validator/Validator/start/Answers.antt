use Rattle.batcher_validator.proofs.Words.{◌≡◌, ◌∙◌, ◌⊎◌, All, ap, length, subst, sym, certificate_format, JournalView, node_config, IsFinalView, IsTakenIn}
use Rattle.batcher_validator.proofs.Words.{HasStarted}
use Rattle.batcher_validator.proofs.Beginning.{begun, has_begun, none_resized, still_fresh}
use Rattle.batcher_voter.proofs.Readable.{not_all_started}
use Rattle.batcher_voter.proofs.Reopening.{all_taken_in, final_stays}
use Rattle.batcher_validator.proofs.Words.{certifies_itself}
use Rattle.batcher_voter.specs.Unstarted.{WhyNotStarted}
use Rattle.batcher_validator.proofs.validator.Validator.start.Goals as goal

pub returns-in-Ok-recall-clause-running : goal.returns-in-Ok-recall-clause-running
returns-in-Ok-recall-clause-running g c = λ earlier keeps has.
    let config = node_config g.S.Scheme.meaning g.S.PublicKey.Ord.cmp g.S.Signature.PartialEq.eq
    g.D.PartialEq.eq in
    let first = c.of-validator.result in
    let journal = ap (λ v. v.journal) c.of-validator.ensures.voter ∙ c.in-Ok-start.ensures.made.journal_is in
    let started = subst (λ v. HasStarted (config v.node) earlier v) (sym c.of-validator.ensures.voter)
    (c.in-Ok-start.ensures.voting earlier keeps has) in
    has_begun config (certificate_format g.S.Certificate.OwnedCodec.format g.D.Codec.format) first
    c.recall.new.self earlier c.participant-me.result
    (c.participant-me.ensures
    ∙ ap (λ (j : JournalView g.row.S-Signature.Denot g.row.D.Denot g.row.L.Denot). j.contents.owner.1.1.0) (sym journal))
    started
    (begun (config first.voter.node) first earlier c.resize.new.self.items c.participant-me.result
    (length c.votes-begun.result.now)
    (ap length (c.votes-begun.ensures
    ∙ ap (λ (j : JournalView g.row.S-Signature.Denot g.row.D.Denot g.row.L.Denot). j.contents.votes) (sym journal)))
    (none_resized _ _ c.new-blocked.result.items c.resize.new.self.items c.new-blocked.ensures.items
    c.in-Ok.ensures.items)
    c.in-Ok-new.presence
    (still_fresh c.in-Ok-new.presence c.in-Ok-new.ensures
    (c.len-2.ensures.count ∙ ap length (c.participants-2.ensures
    ∙ ap (λ s. (g.S.Scheme.meaning s).participants) (c.deref-2.ensures
    ∙ sym (ap (λ v. v.node.scheme) c.of-validator.ensures.voter ∙ c.in-Ok-start.ensures.made.scheme_is)))))
    c.of-validator.ensures.given c.of-validator.ensures.empty c.of-validator.ensures.handed started)
    c.in-Ok-recall.ensures.recalls c.recall.ensures.node c.recall.ensures.journal

pub returns-in-Ok-recall-clause-knows_floor : goal.returns-in-Ok-recall-clause-knows_floor
returns-in-Ok-recall-clause-knows_floor g c =
    let view = c.args.journal.contents.floor.view.0 in
    final_stays _ _ c.in-Ok-recall.ensures.knows view
    (subst (λ v. (view ≡ 0) ⊎ IsFinalView v.knowledge view)
    (sym c.of-validator.ensures.voter) c.in-Ok-start.ensures.knows_floor)

pub returns-in-Ok-recall-clause-knows_kept : goal.returns-in-Ok-recall-clause-knows_kept
returns-in-Ok-recall-clause-knows_kept g c =
    let format = certificate_format g.S.Certificate.OwnedCodec.format g.D.Codec.format in
    let first = c.of-validator.result in
    let new = c.recall.new.self in
    subst (λ n. All (IsTakenIn format n.epoch new.voter.knowledge) c.args.journal.contents.certificates)
    (sym c.recall.ensures.node)
    (all_taken_in format first.voter.node.epoch first.voter.knowledge new.voter.knowledge
    c.in-Ok-recall.ensures.knows c.args.journal.contents.certificates
    (subst (λ v. All (IsTakenIn format v.node.epoch v.knowledge) c.args.journal.contents.certificates)
    (sym c.of-validator.ensures.voter) c.in-Ok-start.ensures.knows_kept))

pub returns-in-Err-recall-clause-why : goal.returns-in-Err-recall-clause-why
returns-in-Err-recall-clause-why g c =
    let format = certificate_format g.S.Certificate.OwnedCodec.format g.D.Codec.format in
    let first = c.of-validator.result in
    not_all_started format (certifies_itself (g.S.Scheme.meaning c.args.scheme.value)) c.args.journal
    c.in-Err-recall.fault
    (subst (λ s. WhyNotStarted format c.args.journal.contents (certifies_itself (g.S.Scheme.meaning s))
    c.in-Err-recall.fault) (ap (λ v. v.node.scheme) c.of-validator.ensures.voter ∙ c.in-Ok-start.ensures.made.scheme_is)
    (subst (λ j. WhyNotStarted format j.contents (certifies_itself (g.S.Scheme.meaning first.voter.node.scheme))
    c.in-Err-recall.fault) (ap (λ v. v.journal) c.of-validator.ensures.voter ∙ c.in-Ok-start.ensures.made.journal_is)
    c.in-Err-recall.ensures.why))
