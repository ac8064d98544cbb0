use Rattle.batcher_voter.proofs.Words.{certificate_format}
use Rattle.batcher_voter.proofs.Keeping.{known_safely}
use Rattle.batcher_voter.proofs.voter.Voter.note_known.Goals as goal

pub note-requires-clause-kept : goal.note-requires-clause-kept
note-requires-clause-kept g c =
    let old = c.args.self.now in
    known_safely (certificate_format g.S.Certificate.OwnedCodec.format g.D.Codec.format) old.journal
    c.args.subject old.knowledge old.waits c.keeps_what_it_knows.ensures c.requires.epoch c.requires.known
