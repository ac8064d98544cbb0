use Rattle.batcher_validator.proofs.Words.{IfSome, Ok, ap, subst, certificate_format, node_config}
use Rattle.batcher_validator.proofs.Reading.{recalls_none, recalls_one, same_decoded}
use Rattle.batcher_voter.specs.Keeping.{HasOnDisk}
use Rattle.batcher_validator.proofs.Words.{◌≡◌, certifies_itself, round_in, subject_certified, versioned, whole}
use Rattle.batcher_voter.proofs.Unstarted.{floor_unlearned}
use Rattle.batcher_voter.specs.Unstarted.{WhyNotLearned}
use Rattle.batcher_validator.proofs.validator.Validator.recall_floor.Goals as goal

pub returns-in-Ok-clause-recalls : goal.returns-in-Ok-clause-recalls
returns-in-Ok-clause-recalls g c =
    let old = c.args.self.now in
    recalls_one (node_config g.S.Scheme.meaning g.S.PublicKey.Ord.cmp g.S.Signature.PartialEq.eq g.D.PartialEq.eq
    old.voter.node) _ old c.recall_one.new.self c.in-Ok-Some.certificate c.in-Ok.ensures.took
    (subst (λ o. IfSome o (λ d. whole (versioned (certificate_format g.S.Certificate.OwnedCodec.format g.D.Codec.format))
    old.voter.journal.contents.finalization ≡ Ok d)) c.in-Ok-Some.field-0-is c.in-Ok-Some.ensures.some)
    (λ d there. same_decoded (certificate_format g.S.Certificate.OwnedCodec.format g.D.Codec.format)
    old.voter.journal.contents.finalization c.in-Ok-Some.field-0 c.in-Ok-Some.certificate d
    c.in-Ok-Some.field-0-is c.in-Ok-Some.ensures.some there)

pub returns-in-Ok-None-clause-recalls : goal.returns-in-Ok-None-clause-recalls
returns-in-Ok-None-clause-recalls g c =
    let old = c.args.self.now in
    recalls_none (node_config g.S.Scheme.meaning g.S.PublicKey.Ord.cmp g.S.Signature.PartialEq.eq g.D.PartialEq.eq
    old.voter.node) _ old (c.in-Ok-None.ensures.none (ap Ok c.in-Ok-None.field-0-is))

pub recall_one-requires : goal.recall_one-requires
recall_one-requires g c =
    subst (λ o. IfSome o (HasOnDisk (certificate_format g.S.Certificate.OwnedCodec.format g.D.Codec.format)
    c.args.self.now.voter.journal.contents)) c.in-Ok-Some.field-0-is c.in-Ok-Some.ensures.there

pub returns-in-Err-recall_one-clause-why : goal.returns-in-Err-recall_one-clause-why
returns-in-Err-recall_one-clause-why g c =
    let format = certificate_format g.S.Certificate.OwnedCodec.format g.D.Codec.format in
    let old = c.args.self.now in
    let contents = old.voter.journal.contents in
    let certifies = certifies_itself (g.S.Scheme.meaning old.voter.node.scheme) in
    let certificate = c.in-Ok-Some.certificate in
    floor_unlearned format certifies contents certificate
    (subst (λ o. IfSome o (λ d. whole (versioned format) contents.finalization ≡ Ok d)) c.in-Ok-Some.field-0-is
    c.in-Ok-Some.ensures.some)
    c.in-Err-recall_one.fault
    (subst (λ r. WhyNotLearned certifies r certificate c.in-Err-recall_one.fault)
    (subst (λ o. IfSome o (λ d. round_in (subject_certified d) ≡ contents.floor)) c.in-Ok-Some.field-0-is
    c.in-Ok-Some.ensures.round)
    c.in-Err-recall_one.ensures.why)
