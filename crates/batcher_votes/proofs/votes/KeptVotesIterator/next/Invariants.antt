use Rattle.batcher_votes.proofs.Words.{◌≡◌, length, filter_map, of_kind, part, vote_at, votes_in}
use Rattle.batcher_votes.proofs.votes.KeptVotesIterator.next.Given as goal

-- The entries that are left show the votes that are left.
abbrev pub invariant-loop-first : goal.invariant-loop-first
invariant-loop-first g l = record {
  kind : l.self-inside.kind ≡ l.initial.self-inside.kind;
  kept : l.self-inside.kept ≡ l.initial.self-inside.kept;
  votes : filter_map (λ entry. vote_at (of_kind
      (votes_in l.self-inside.kept.now) l.self-inside.kind)
      (part l.self-inside.kind entry)) l.self-inside.rest.now
      ≡ filter_map (λ entry. vote_at (of_kind (votes_in l.initial.self-inside.kept.now)
      l.initial.self-inside.kind) (part l.initial.self-inside.kind entry))
      l.initial.self-inside.rest.now;
}

abbrev pub decreases-loop-first : goal.decreases-loop-first
decreases-loop-first g l = length l.self-inside.rest.now
