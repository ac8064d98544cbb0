use Rattle.batcher_types.proofs.Words.{rules, meets_next_u32}
use Rattle.batcher_types.proofs.scheme.counter.CounterRng.next_u32.Goals as goal

pub returns : goal.returns
returns c = meets_next_u32 _ _ _ _ (search rules)
