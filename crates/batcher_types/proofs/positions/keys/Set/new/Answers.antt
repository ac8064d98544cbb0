use Rattle.batcher_types.proofs.Words.{◌∙◌, arith}
use Rattle.batcher_types.proofs.KeyLemmas.{strict_from_adjacent, distinct_from_strict, twice_at}
use Rattle.batcher_types.proofs.positions.keys.Set.new.Goals as goal

pub invariant_of-result : goal.invariant_of-result
invariant_of-result g c = (
  strict_from_adjacent g.met.P.Ord.total c.sort_unstable.new.self.items (λ k d below. c.loop-i.invariant k d (omega (arith, c.sort_unstable.new.self.ok.0))),
  omega (arith, c.sort_unstable.new.self.ok.0, c.sort_unstable.ensures.len),
)

pub returns-clause-ascending : goal.returns-clause-ascending
returns-clause-ascending g c =
    strict_from_adjacent g.met.P.Ord.total c.sort_unstable.new.self.items (λ k d below. c.loop-i.invariant k d (omega (arith, c.sort_unstable.new.self.ok.0)))

pub returns-clause-distinct : goal.returns-clause-distinct
returns-clause-distinct g c = λ _.
    distinct_from_strict g.P.Ord.cmp g.met.P.Ord.matches_eq g.met.P.Eq.laws.symm c.args.keys.items c.sort_unstable.new.self.items
    c.sort_unstable.ensures.permutation
    (strict_from_adjacent g.met.P.Ord.total c.sort_unstable.new.self.items (λ k d below. c.loop-i.invariant k d (omega (arith, c.sort_unstable.new.self.ok.0))))

pub returns-in_default-clause-duplicate : goal.returns-in_default-clause-duplicate
returns-in_default-clause-duplicate g c = λ _ apart.
    twice_at g.met.P.Ord.total g.met.P.Ord.matches_eq g.met.P.Eq.laws.symm c.args.keys.items c.sort_unstable.new.self.items c.sort_unstable.ensures.permutation
    c.sort_unstable.ensures.sorted c.loop-i.i c.index.result.now c.index-in-loop-i.result.now (omega arith) (omega (arith, c.sort_unstable.new.self.ok.0))
    c.index.ensures c.index-in-loop-i.ensures (λ e. c.in_default.not-Less (c.cmp.ensures ∙ e)) apart
