use Rattle.batcher_voter.proofs.Words.{◌≤◌, sym, subst, round_in, certificate_format, IsSafelyKept}
use Rattle.batcher_voter.proofs.Keeping.{safely_kept}
use Rattle.batcher_voter.proofs.voter.Voter.learn_if_kept.Goals as goal

pub note-requires-clause-kept : goal.note-requires-clause-kept
note-requires-clause-kept g c =
    let format = certificate_format g.S.Certificate.OwnedCodec.format g.D.Codec.format in
    let mid = c.keep.new.self in
    subst (λ s. mid.knowledge.floor ≤ (round_in s).view.0 → IsSafelyKept format mid.journal mid.waits s)
    (sym c.subject-in-Ok.ensures)
    (λ from. safely_kept format c.args.self.now.journal mid.journal c.args.certificate.now mid.waits
    c.in-Ok.ensures.kept)
