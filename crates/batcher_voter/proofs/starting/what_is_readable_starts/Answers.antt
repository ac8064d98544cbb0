use Rattle.batcher_voter.proofs.Words.{certificate_format}
use Rattle.batcher_voter.proofs.Unstarted.{readable_starts}
use Rattle.batcher_voter.proofs.starting.what_is_readable_starts.Goals as goal

pub returns : goal.returns
returns g c = λ contents certifies fault readable why.
    readable_starts (certificate_format g.S.Certificate.OwnedCodec.format g.D.Codec.format) certifies contents readable fault why
