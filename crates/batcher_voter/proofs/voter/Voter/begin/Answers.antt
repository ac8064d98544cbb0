use Rattle.batcher_voter.proofs.Words.{◌≤◌, ◌∙◌, ap, length, subst, sym, None, certificate_format, numbered}
use Rattle.batcher_voter.proofs.Words.{certifies_itself, AreReadable, WhyNotStarted, all_in}
use Rattle.batcher_voter.proofs.Readable.{readable_on_disk}
use Rattle.batcher_voter.proofs.Keeping.{nothing_keeps}
use Rattle.batcher_voter.proofs.voter.Voter.begin.Goals as goal

pub invariant_of-result : goal.invariant_of-result
invariant_of-result g c = (
  subst (λ s. 1 ≤ length (g.S.Scheme.meaning s).participants) (sym c.in-Ok.ensures.scheme) c.requires,
  (
    record {
      of_epoch = c.new.ensures.epoch ∙ sym c.in-Ok.ensures.epoch;
      from_final = c.new.ensures.floor ∙ sym (ap (λ w. w.finalized) c.in-Ok.ensures.window);
      floor_is = λ _. sym c.floor-floor.ensures
          ∙ ap (λ e. numbered e c.floor-floor.result.view.0) (sym c.in-Ok.ensures.epoch)
          ∙ ap (λ n. numbered c.in-Ok.node.epoch n) (sym (ap (λ w. w.finalized) c.in-Ok.ensures.window));
    },
    (
      nothing_keeps (certificate_format g.S.Certificate.OwnedCodec.format g.D.Codec.format) c.args.journal
          c.new.result None c.new.ensures.nothing,
      λ _. c.in-Ok-read.ensures.readable,
    ),
  ),
)

pub returns-in-Ok-read-clause-readable : goal.returns-in-Ok-read-clause-readable
returns-in-Ok-read-clause-readable g c =
    let format = certificate_format g.S.Certificate.OwnedCodec.format g.D.Codec.format in
    subst (λ s. AreReadable format c.args.journal.contents (certifies_itself (g.S.Scheme.meaning s))) c.in-Ok.ensures.scheme
    (readable_on_disk format (certifies_itself (g.S.Scheme.meaning c.in-Ok.node.scheme)) c.args.journal
    c.in-Ok-read.ensures.readable)

pub returns-in-Err-read-clause-why : goal.returns-in-Err-read-clause-why
returns-in-Err-read-clause-why g c =
    let format = certificate_format g.S.Certificate.OwnedCodec.format g.D.Codec.format in
    subst (λ s. WhyNotStarted format (all_in c.args.journal) (certifies_itself (g.S.Scheme.meaning s)) c.in-Err-read.fault)
    c.in-Ok.ensures.scheme c.in-Err-read.ensures.why
