use Rattle.batcher_journal.proofs.Words.{arith, length, sym, ◌∙◌, eqb-false, vote_is_exact, vote_format}
use Rattle.batcher_journal.proofs.Sorting.{less, no_records, one_record}
use Rattle.batcher_journal.proofs.records.records_in.Goals as goal

pub loop-rest-smaller : goal.loop-rest-smaller
loop-rest-smaller g c =
    less (vote_format g.G.Codec.format g.D.Codec.format)
    (vote_is_exact g.G.Codec.format g.D.Codec.format g.met.G.Codec.exact g.met.D.Codec.exact) _ _ _ _
    c.loop-rest.invariant c.type_inv.bytes _ _ c.in-Ok.ensures

pub loop-rest-preserved : goal.loop-rest-preserved
loop-rest-preserved g c =
    one_record (vote_format g.G.Codec.format g.D.Codec.format)
    (vote_is_exact g.G.Codec.format g.D.Codec.format g.met.G.Codec.exact g.met.D.Codec.exact) _ _ _ _
    c.loop-rest.invariant c.type_inv.bytes _ _ c.in-Ok.ensures _ _ c.in_ok-add-in-Ok.ensures.0
    c.in_ok-add-in-Ok.ensures.1

pub returns-in-Err-clause-fault : goal.returns-in-Err-clause-fault
returns-in-Err-clause-fault g c =
    λ fault is records values parts.
    no_records (vote_format g.G.Codec.format g.D.Codec.format)
    (vote_is_exact g.G.Codec.format g.D.Codec.format g.met.G.Codec.exact g.met.D.Codec.exact) _ _ _ _
    c.loop-rest.invariant _ c.in-Err.ensures
    (omega (arith, eqb-false (length c.loop-rest.rest.now) 0 (sym c.is_empty.ensures ∙ c.loop-rest-test.true)))
    records values parts
