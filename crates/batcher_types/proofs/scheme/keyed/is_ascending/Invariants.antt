use Rattle.batcher_types.proofs.Words.{◌<◌, AllAdjacentBelow}
use Rattle.batcher_types.proofs.scheme.keyed.is_ascending.Given as goal

abbrev pub invariant-loop-i : goal.invariant-loop-i
invariant-loop-i l = AllAdjacentBelow (λ x y. x.signer.0 < y.signer.0) l.attestations l.i
