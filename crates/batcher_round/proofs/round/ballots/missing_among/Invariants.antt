use Rattle.batcher_round.proofs.Words.{◌≡◌, ◌≤◌, length, nat_lt, vec_capacity, count, RoundState, missing_in}
use Rattle.batcher_round.proofs.round.ballots.missing_among.Given as goal

abbrev pub invariant-loop-index : goal.invariant-loop-index
invariant-loop-index g l = record {
  found : (held : RoundState g.row.G.Denot g.row.D.Denot) → held.tracked ≡ l.tracker.holds
      → l.missing.items ≡ missing_in g.D.PartialEq.eq held l.proposal l.index;
  lower : l.lower ≡ count (λ s. nat_lt s l.index) l.tracker.signers;
  low : l.lower ≤ l.index;
  few : length l.missing.items ≤ l.index;
  room : l.participants ≤ vec_capacity l.missing;
}
