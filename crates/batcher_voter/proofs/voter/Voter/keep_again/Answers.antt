use Rattle.batcher_voter.proofs.Words.{◌∙◌, Some, ap, certificate_format}
use Rattle.batcher_voter.proofs.Keeping.{kept_waits}
use Rattle.batcher_voter.proofs.voter.Voter.keep_again.Goals as goal

pub note_kept-requires : goal.note_kept-requires
note_kept-requires g c = λ is_open t waiting.
    kept_waits (certificate_format g.S.Certificate.OwnedCodec.format g.D.Codec.format) c.args.self.now.journal
    c.keep.new.self.journal c.args.certificate.now c.keep.new.self.waits c.in-Ok.ensures.kept
    (c.keep.ensures.waits ∙ c.if-not-is_waiting.ensures ∙ ap (λ s. Some s) c.subject.ensures) t waiting
