use Rattle.batcher_validator.proofs.Words.{subst, certificate_format, node_config, Recalls, AreBytesOf}
use Rattle.batcher_validator.proofs.Reading.{recalls_both}
use Rattle.batcher_voter.proofs.Reopening.{stays_both}
use Rattle.batcher_validator.proofs.Words.{certifies_itself}
use Rattle.batcher_voter.specs.Unstarted.{WhyNotStarted}
use Rattle.batcher_validator.proofs.validator.Validator.recall.Goals as goal

pub returns-in-Ok-recall_others-clause-recalls : goal.returns-in-Ok-recall_others-clause-recalls
returns-in-Ok-recall_others-clause-recalls g c =
    let config = node_config g.S.Scheme.meaning g.S.PublicKey.Ord.cmp g.S.Signature.PartialEq.eq g.D.PartialEq.eq in
    let format = certificate_format g.S.Certificate.OwnedCodec.format g.D.Codec.format in
    recalls_both (config c.args.self.now.voter.node) _ _ _ c.args.self.now c.recall_floor.new.self
    c.recall_others.new.self c.in-Ok.ensures.recalls
    (subst (λ n. Recalls (config n) (AreBytesOf format c.args.self.now.voter.journal.contents.certificates)
    c.recall_floor.new.self c.recall_others.new.self) c.recall_floor.ensures.node
    (subst (λ j. Recalls (config c.recall_floor.new.self.voter.node) (AreBytesOf format j.contents.certificates)
    c.recall_floor.new.self c.recall_others.new.self) c.recall_floor.ensures.journal
    c.in-Ok-recall_others.ensures.recalls))
    (λ d on_disk. on_disk) (λ d on_disk. on_disk)

pub returns-in-Ok-recall_others-clause-knows : goal.returns-in-Ok-recall_others-clause-knows
returns-in-Ok-recall_others-clause-knows g c =
    stays_both _ _ _ c.in-Ok.ensures.knows c.in-Ok-recall_others.ensures.knows

pub returns-in-Err-recall_others-clause-why : goal.returns-in-Err-recall_others-clause-why
returns-in-Err-recall_others-clause-why g c =
    let format = certificate_format g.S.Certificate.OwnedCodec.format g.D.Codec.format in
    let mid = c.recall_floor.new.self in
    subst (λ n. WhyNotStarted format c.args.self.now.voter.journal.contents
    (certifies_itself (g.S.Scheme.meaning n.scheme)) c.in-Err-recall_others.fault) c.recall_floor.ensures.node
    (subst (λ j. WhyNotStarted format j.contents (certifies_itself (g.S.Scheme.meaning mid.voter.node.scheme))
    c.in-Err-recall_others.fault) c.recall_floor.ensures.journal c.in-Err-recall_others.ensures.why)
