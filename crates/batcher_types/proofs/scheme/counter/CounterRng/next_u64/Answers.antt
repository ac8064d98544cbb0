use Rattle.batcher_types.proofs.Words.{rules, meets_next_u64}
use Rattle.batcher_types.proofs.scheme.counter.CounterRng.next_u64.Goals as goal

pub returns : goal.returns
returns c = meets_next_u64 _ _ _ _ (search rules)
