use Rattle.batcher_journal.proofs.Words.{inl, vote_format, records_of}
use Rattle.batcher_journal.proofs.Writes.{with_values}
use Rattle.batcher_journal.proofs.journal.write_to.Goals as goal

pub returns-in-Err-extend-clause-leaves : goal.returns-in-Err-extend-clause-leaves
returns-in-Err-extend-clause-leaves g c =
    λ left honest may. inl (g.met.L.Log.settled c.args.log.now left honest c.requires may)

pub returns-in-Err-extend-clause-opens : goal.returns-in-Err-extend-clause-opens
returns-in-Err-extend-clause-opens g c =
    λ honest lose. g.met.L.Log.kept c.args.log.now honest c.requires lose

pub returns-in-Ok-append-clause-leaves : goal.returns-in-Ok-append-clause-leaves
returns-in-Ok-append-clause-leaves g c =
    λ left honest may.
    with_values (vote_format g.G.Codec.format g.D.Codec.format) (g.L.Log.written c.args.log.now) left
    c.new-bytes.result.items c.reserve.new.self.items c.put_records.new.out.items c.deref.result.now
    (records_of c.args.more.now c.args.certificates.now) c.new-bytes.ensures.items c.in-Ok.ensures.items
    c.in-Ok-put_records.ensures.ok c.in-Ok-put_records.ensures.value c.deref.ensures.value
    (c.append.ensures.leaves left honest may)

pub returns-clause-leaves : goal.returns-clause-leaves
returns-clause-leaves g c =
    λ left honest may.
    with_values (vote_format g.G.Codec.format g.D.Codec.format) (g.L.Log.written c.args.log.now) left
    c.new-bytes.result.items c.reserve.new.self.items c.put_records.new.out.items c.deref.result.now
    (records_of c.args.more.now c.args.certificates.now) c.new-bytes.ensures.items c.in-Ok.ensures.items
    c.in-Ok-put_records.ensures.ok c.in-Ok-put_records.ensures.value c.deref.ensures.value
    (c.append.ensures.leaves left honest may)
