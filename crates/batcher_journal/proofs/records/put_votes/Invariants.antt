use Rattle.batcher_journal.proofs.Words.{◌≡◌, ◌++◌, map, take, vote_format, AreRecords, Voted, records_text}
use Rattle.batcher_journal.proofs.records.put_votes.Given as goal

abbrev pub invariant-loop-vote : goal.invariant-loop-vote
invariant-loop-vote g l =
    (l.out.items ≡ l.fn.out.items
    ++ records_text (vote_format g.G.Codec.format g.D.Codec.format) (map Voted (take l.vote-index l.votes)))
    × AreRecords (vote_format g.G.Codec.format g.D.Codec.format) (map Voted (take l.vote-index l.votes))
