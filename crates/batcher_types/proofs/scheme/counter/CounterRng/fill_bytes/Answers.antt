use Rattle.batcher_types.proofs.Words.{rules, meets_fill_bytes}
use Rattle.batcher_types.proofs.scheme.counter.CounterRng.fill_bytes.Goals as goal

pub returns : goal.returns
returns c = meets_fill_bytes _ _ _ _ _ (search rules)
