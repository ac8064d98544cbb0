use Rattle.batcher_types.proofs.Words.{arith}
use Rattle.batcher_types.proofs.MapLemmas.{ascending-empty}
use Rattle.batcher_types.proofs.messages.map.AttributableMap.new.Goals as goal

pub invariant_of-result : goal.invariant_of-result
invariant_of-result g c = rw c.new.ensures.items (ascending-empty (λ x. (g.T.Attributable.signed_by x).0), λ k d below. absurd (omega arith))
