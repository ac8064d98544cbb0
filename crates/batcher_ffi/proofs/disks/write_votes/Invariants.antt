use Rattle.batcher_ffi.proofs.Words.{◌≡◌, ◌<◌, ◌≤◌, ℕ, length, map, slice_get}
use Rattle.std.specs.Prelude.{option_and_then}
use Rattle.batcher_ffi.specs.Disks.{claim_in, claim_of}
use Rattle.batcher_ffi.proofs.disks.write_votes.Given as goal

abbrev pub invariant-loop-index : goal.invariant-loop-index
invariant-loop-index l = record {
  places : length l.to ≡ length l.initial.to;
  written : (i : ℕ) → i < l.index
      → option_and_then claim_in (slice_get l.to i) ≡ slice_get (map claim_of l.from) i;
  rest : (i : ℕ) → l.index ≤ i → slice_get l.to i ≡ slice_get l.initial.to i;
}
