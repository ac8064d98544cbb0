use Rattle.batcher_voter.proofs.Words.{◌≢◌, ◌∙◌, [], inl, inr, slice_index_or, subst, sym, ⊎_elim, certificate_format, certifies_itself, Certified}
use Rattle.batcher_voter.proofs.Words.{WhyNotLearned}
use Rattle.batcher_voter.proofs.Unstarted.{at_place, beside_unlearned}
use Rattle.batcher_voter.proofs.Keeping.{beside_votes}
use Rattle.batcher_voter.proofs.Readable.{certifies_one}
use Rattle.batcher_voter.proofs.voter.Voter.learn_at.Goals as goal

pub returns-in-Ok-take_in-clause-kept : goal.returns-in-Ok-take_in-clause-kept
returns-in-Ok-take_in-clause-kept g c = λ d.
    let is = c.in-Ok.ensures.at d in
    ⊎_elim
    (λ other. inl (subst (λ number. number.epoch ≢ c.args.self.now.node.epoch) (sym is.0) other))
    (λ known.
    inr (record {
      certificate = c.in-Ok.certificate;
      encoded = is.1;
      of_round = c.in-Ok-take_in.ensures.of_round ∙ sym is.0;
      known = known;
    }))
    c.in-Ok-take_in.ensures.learned

pub take_in-requires-clause-there : goal.take_in-requires-clause-there
take_in-requires-clause-there g c = λ same.
    beside_votes (certificate_format g.S.Certificate.OwnedCodec.format g.D.Codec.format) c.args.self.now.journal.contents
    c.in-Ok.certificate c.in-Ok.round c.args.i c.requires.within c.in-Ok.ensures.at same

pub returns-in-Err-take_in-clause-why : goal.returns-in-Err-take_in-clause-why
returns-in-Err-take_in-clause-why g c =
    let format = certificate_format g.S.Certificate.OwnedCodec.format g.D.Codec.format in
    let contents = c.args.self.now.journal.contents in
    let certifies = certifies_itself (g.S.Scheme.meaning c.args.self.now.node.scheme) in
    let d : Certified = (contents.floor, []) in
    let kept : Certified = slice_index_or contents.certificates c.args.i d in
    beside_unlearned format certifies contents kept (at_place format certifies contents c.args.i d c.requires.within)
    c.in-Ok.certificate (c.in-Ok.ensures.decoded d) c.in-Err-take_in.fault
    (subst (λ r. WhyNotLearned certifies r c.in-Ok.certificate c.in-Err-take_in.fault)
    (sym (c.in-Ok.ensures.at d).0) c.in-Err-take_in.ensures.why)

pub take_in-requires-clause-certifies : goal.take_in-requires-clause-certifies
take_in-requires-clause-certifies g c =
    let format = certificate_format g.S.Certificate.OwnedCodec.format g.D.Codec.format in
    let contents = c.args.self.now.journal.contents in
    let certifies = certifies_itself (g.S.Scheme.meaning c.args.self.now.node.scheme) in
    let d : Certified = (contents.floor, []) in
    let kept : Certified = slice_index_or contents.certificates c.args.i d in
    certifies_one format certifies kept c.in-Ok.certificate (c.in-Ok.ensures.decoded d)
    (c.requires.readable.beside kept (at_place format certifies contents c.args.i d c.requires.within))
