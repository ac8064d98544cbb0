use Rattle.batcher_validator.proofs.Words.{arith, conduct_in, refl}
use Rattle.batcher_validator.proofs.Settling.{one_more_decided}
use Rattle.batcher_validator.proofs.validator.Validator.decided_until.Goals as goal

pub loop-view-init : goal.loop-view-init
loop-view-init g c = λ past earlier is view from before. absurd (omega (arith, from, before))

pub loop-view-preserved : goal.loop-view-preserved
loop-view-preserved g c = λ past earlier is.
    one_more_decided (conduct_in earlier past) _ _ _ (c.loop-view.invariant past earlier is)
    (c.if-not-has_decided.ensures refl past earlier is)
