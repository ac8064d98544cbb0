use Rattle.batcher_journal.proofs.Words.{vote_is_exact, vote_format}
use Rattle.batcher_journal.proofs.Splitting.{one_text}
use Rattle.batcher_journal.proofs.journal.bytes_are_of_one_journal.Goals as goal

pub returns : goal.returns
returns g c =
    one_text (vote_format g.G.Codec.format g.D.Codec.format)
    (vote_is_exact g.G.Codec.format g.D.Codec.format g.met.G.Codec.exact g.met.D.Codec.exact)
