use Rattle.batcher_types.proofs.Words.{◌≡◌, AllAdjacentBelow, Less}
use Rattle.batcher_types.proofs.positions.keys.Set.new.Given as goal

abbrev pub invariant-loop-i : goal.invariant-loop-i
invariant-loop-i g l = AllAdjacentBelow (λ x y. g.P.Ord.cmp x y ≡ Less) l.keys.items l.i
