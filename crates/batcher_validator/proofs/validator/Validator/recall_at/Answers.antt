use Rattle.batcher_validator.proofs.Words.{certificate_format, node_config}
use Rattle.batcher_validator.proofs.Reading.{recalls_one, same_at_place}
use Rattle.batcher_validator.proofs.Words.{[], subst, certifies_itself, Certified}
use Rattle.std.specs.Prelude.{slice_index_or}
use Rattle.batcher_voter.proofs.Unstarted.{at_place, beside_unlearned}
use Rattle.batcher_voter.specs.Unstarted.{WhyNotLearned}
use Rattle.batcher_validator.proofs.validator.Validator.recall_at.Goals as goal

pub returns-in-Ok-recall_one-clause-recalls : goal.returns-in-Ok-recall_one-clause-recalls
returns-in-Ok-recall_one-clause-recalls g c =
    let old = c.args.self.now in
    recalls_one (node_config g.S.Scheme.meaning g.S.PublicKey.Ord.cmp g.S.Signature.PartialEq.eq g.D.PartialEq.eq
    old.voter.node) _ old c.recall_one.new.self c.in-Ok.certificate c.in-Ok-recall_one.ensures.took c.in-Ok.ensures.at
    (λ d there. same_at_place (certificate_format g.S.Certificate.OwnedCodec.format g.D.Codec.format)
    old.voter.journal.contents.certificates c.args.i c.in-Ok.certificate d c.in-Ok.ensures.at there)

pub recall_one-requires : goal.recall_one-requires
recall_one-requires g c = c.in-Ok.ensures.there

pub returns-in-Err-recall_one-clause-why : goal.returns-in-Err-recall_one-clause-why
returns-in-Err-recall_one-clause-why g c =
    let format = certificate_format g.S.Certificate.OwnedCodec.format g.D.Codec.format in
    let old = c.args.self.now in
    let contents = old.voter.journal.contents in
    let certifies = certifies_itself (g.S.Scheme.meaning old.voter.node.scheme) in
    let d : Certified = (contents.floor, []) in
    let read = c.in-Ok.ensures.read d in
    beside_unlearned format certifies contents (slice_index_or contents.certificates c.args.i d)
    (at_place format certifies contents c.args.i d c.requires) c.in-Ok.certificate read.decoded c.in-Err-recall_one.fault
    (subst (λ r. WhyNotLearned certifies r c.in-Ok.certificate c.in-Err-recall_one.fault) read.of_round
    c.in-Err-recall_one.ensures.why)
