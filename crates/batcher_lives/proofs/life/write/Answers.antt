use Rattle.batcher_lives.proofs.Words.{ap, subst, sym, take, ◌∙◌, take_at, vote_format, LeadsToOpen}
use Rattle.batcher_lives.proofs.Calls.{write_err, write_ok}
use Rattle.batcher_lives.proofs.life.write.Goals as goal

pub returns-in-Ok-write : goal.returns-in-Ok-write
returns-in-Ok-write g c =
    λ floor was.
    subst (λ vs. LeadsToOpen (vote_format g.G.Codec.format g.D.Codec.format) g.D.PartialEq.eq g.L.Log.is_honest g.L.Log.may_leave floor c.write.new.self vs)
    (sym c.in-Ok.ensures.items)
    (write_ok (vote_format g.G.Codec.format g.D.Codec.format) g.D.PartialEq.eq g.L.Log.is_honest g.L.Log.may_leave g.L.Log.has_failed floor
    c.bytes_are_of_one_journal.ensures c.args.journal.now c.write.new.self c.args.handed.now.items was
    c.in-Ok-write.ensures.honest c.args.votes.now c.in-Ok-write.ensures.written.0 c.in-Ok-write.ensures.written.1
    c.in-Ok-write.ensures.written.2)

pub returns-in-Err-write : goal.returns-in-Err-write
returns-in-Err-write g c =
    λ floor was.
    subst (λ vs. LeadsToOpen (vote_format g.G.Codec.format g.D.Codec.format) g.D.PartialEq.eq g.L.Log.is_honest g.L.Log.may_leave floor c.write.new.self vs)
    (sym (c.truncate.ensures.items ∙ ap (take c.len-len.result) c.in-Ok.ensures.items
    ∙ take_at c.args.handed.now.items c.args.votes.now c.len-len.result (sym (c.len-len.ensures ∙ c.args.handed.now.ok.0))))
    (write_err (vote_format g.G.Codec.format g.D.Codec.format) g.D.PartialEq.eq g.L.Log.is_honest g.L.Log.may_leave g.L.Log.has_failed floor
    c.bytes_are_of_one_journal.ensures c.args.journal.now c.write.new.self c.args.handed.now.items was
    c.in-Err-write.ensures.honest c.args.votes.now c.in-Err-write.field-0 c.in-Err-write.ensures.memory
    c.in-Err-write.ensures.full c.in-Err-write.ensures.not_free c.in-Err-write.ensures.closed c.in-Err-write.ensures.shut
    c.in-Err-write.ensures.leaves)
