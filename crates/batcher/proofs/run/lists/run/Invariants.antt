use Rattle.batcher.proofs.Words.{◌≡◌, ◌≤◌, length, take, vec_capacity, config, Goes}
use Rattle.batcher.proofs.run.lists.run.Given as goal

abbrev pub invariant-loop-call : goal.invariant-loop-call
invariant-loop-call g l = record {
  goes : Goes (config (g.S.Scheme.meaning l.initial.round.scheme) g.S.PublicKey.Ord.cmp
      g.S.Signature.PartialEq.eq g.D.PartialEq.eq l.initial.round.number l.initial.round.mode)
      (g.R.Rng.stream l.initial.rng) (take l.call-index l.calls) l.answers.items l.round.holds
      (g.R.Rng.stream l.rng);
  told : length l.answers.items ≡ l.call-index;
  room : length l.calls ≤ vec_capacity l.answers;
  scheme : l.round.scheme ≡ l.initial.round.scheme;
  number : l.round.number ≡ l.initial.round.number;
  mode : l.round.mode ≡ l.initial.round.mode;
}
