use Rattle.batcher_votes.proofs.Words.{◌<◌, ◌∙◌, sym, arith, length, FiltersInPlace-more_no, FiltersInPlace-more_set}
use Rattle.batcher_votes.proofs.verifier.buffer.retain_runs.Goals as goal

pub loop-i-preserved : goal.loop-i-preserved
loop-i-preserved g c =
    let below : c.loop-i.i < length c.loop-i.runs = omega arith in
    elim c.if-fits.branch [
      | goal.then-fits w ↦
          rw (w.runs-is, w.kept-is) (FiltersInPlace-more_set c.loop-i.invariant below (sym c.fits.ensures ∙ w.if-fits.true) c.index-runs-i.is)
      | goal.else-fits w ↦
          rw (w.runs-is, w.kept-is) (FiltersInPlace-more_no c.loop-i.invariant below (sym c.fits.ensures ∙ w.if-fits.false) c.index-runs-i.is)
    ]
