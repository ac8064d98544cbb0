use Rattle.batcher_ffi.proofs.Words.{◌≡◌, ◌<◌, ◌≤◌, ℕ, length, slice_get, option_map}
use Rattle.batcher_ffi.proofs.writing.write_bytes.Given as goal

abbrev pub invariant-loop-index : goal.invariant-loop-index
invariant-loop-index l = record {
  places : length l.to ≡ length l.initial.to;
  written : (i : ℕ) → i < l.index
      → option_map (λ b. b) (slice_get l.to i) ≡ slice_get l.from i;
  rest : (i : ℕ) → l.index ≤ i → slice_get l.to i ≡ slice_get l.initial.to i;
}
