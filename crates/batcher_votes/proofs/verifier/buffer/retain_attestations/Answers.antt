use Rattle.batcher_votes.proofs.Words.{◌∙◌, sym, arith}
use Rattle.batcher_votes.proofs.VerifierLemmas.Runs.{moved_no, moved_yes, moved_start}
use Rattle.batcher_votes.proofs.verifier.buffer.retain_attestations.Goals as goal
use Rattle.batcher_votes.proofs.verifier.buffer.retain_attestations.Goals.{then-fits, else-fits}

pub loop-run-init : goal.loop-run-init
loop-run-init g c = moved_start g.D.PartialEq.eq c.args.proposal.now c.args.runs.now c.args.attestations.now c.requires

pub loop-run-preserved : goal.loop-run-preserved
loop-run-preserved g c =
    elim c.if-fits.branch [
      | then-fits w ↦
          rw (w.attestations-is, w.kept-is, w.start-is)
          (moved_yes g.D.PartialEq.eq c.args.proposal.now c.run-item.result c.loop-run.invariant (omega arith) c.run-item.is _ _ (omega arith)
          w.copy_within.ensures.after (sym c.fits.ensures ∙ w.if-fits.true))
      | else-fits w ↦
          rw (w.attestations-is, w.kept-is, w.start-is)
          (moved_no g.D.PartialEq.eq c.args.proposal.now c.run-item.result c.loop-run.invariant (omega arith) c.run-item.is _ (omega arith)
          (sym c.fits.ensures ∙ w.if-fits.false))
    ]
