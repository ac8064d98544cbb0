use Rattle.batcher_journal.proofs.Words.{◌≡◌, ◌++◌, map, take, vote_format, AreRecords, Certifies, records_text}
use Rattle.batcher_journal.proofs.records.put_certificates.Given as goal

abbrev pub invariant-loop-it : goal.invariant-loop-it
invariant-loop-it g l =
    (l.out.items ≡ l.fn.out.items
    ++ records_text (vote_format g.G.Codec.format g.D.Codec.format) (map Certifies (take l.it-index l.certificates)))
    × AreRecords (vote_format g.G.Codec.format g.D.Codec.format) (map Certifies (take l.it-index l.certificates))
