use Rattle.batcher_journal.proofs.Words.{length, vote_format, HasRecords}
use Rattle.batcher_journal.proofs.records.records_in.Given as goal

abbrev pub invariant-loop-rest : goal.invariant-loop-rest
invariant-loop-rest g l =
    HasRecords (vote_format g.G.Codec.format g.D.Codec.format) l.bytes l.votes.items l.certificates.items l.rest

abbrev pub decreases-loop-rest : goal.decreases-loop-rest
decreases-loop-rest g l = length l.rest
