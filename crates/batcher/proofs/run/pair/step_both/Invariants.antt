use Rattle.batcher.proofs.Words.{◌≡◌, ◌≤◌, length, take, vec_capacity, Retaining, Releasing, config, PairGoes}
use Rattle.batcher.proofs.run.pair.step_both.Given as goal

abbrev pub invariant-loop-call : goal.invariant-loop-call
invariant-loop-call g l = record {
  goes : PairGoes (config (g.S.Scheme.meaning l.initial.retaining.scheme) g.S.PublicKey.Ord.cmp
      g.S.Signature.PartialEq.eq g.D.PartialEq.eq l.initial.retaining.number Retaining)
      (g.R.Rng.stream l.initial.rng_a) (take l.call-index l.calls) l.retained.items l.released.items
      l.retaining.holds l.releasing.holds (g.R.Rng.stream l.rng_a) (g.R.Rng.stream l.rng_b);
  room : length l.calls ≤ vec_capacity l.retained;
  room_released : length l.calls ≤ vec_capacity l.released;
  scheme : l.retaining.scheme ≡ l.initial.retaining.scheme;
  number : l.retaining.number ≡ l.initial.retaining.number;
  mode : l.retaining.mode ≡ Retaining;
  scheme_released : l.releasing.scheme ≡ l.initial.retaining.scheme;
  number_released : l.releasing.number ≡ l.initial.retaining.number;
  mode_released : l.releasing.mode ≡ Releasing;
}
