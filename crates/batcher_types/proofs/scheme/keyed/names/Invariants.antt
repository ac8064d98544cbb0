use Rattle.batcher_types.proofs.Words.{◌≡◌, ◌<◌, ℕ, get_or, vec_len, Name}
use Rattle.batcher_types.proofs.scheme.keyed.names.Given as goal

abbrev pub invariant-loop-number : goal.invariant-loop-number
invariant-loop-number l = record {
  count : vec_len l.names ≡ l.number;
  each : (k : ℕ) (d : Name) → k < l.number → get_or l.names.items k d ≡ record { 0 = k };
}
