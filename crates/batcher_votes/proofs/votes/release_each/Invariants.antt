use Rattle.batcher_votes.proofs.Words.{◌≡◌, ◌++◌, take, drop, map, option_copied, of_kind, entry_released, votes_in}
use Rattle.batcher_votes.proofs.votes.release_each.Given as goal

-- The entries before the index are released, and the others are as they were.
abbrev pub invariant-loop-index : goal.invariant-loop-index
invariant-loop-index g l = record {
  items : l.entries.items ≡ map (entry_released g.D.PartialEq.eq (option_copied l.selected) l.kind
      (of_kind (votes_in l.kept) l.kind)) (take l.index l.fn.entries.items)
      ++ drop l.index l.fn.entries.items;
  participants : l.entries.participants ≡ l.fn.entries.participants;
}
