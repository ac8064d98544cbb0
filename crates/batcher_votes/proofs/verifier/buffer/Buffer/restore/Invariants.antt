use Rattle.batcher_votes.proofs.Words.{◌≡◌, ◌≤◌, ◌++◌, Some, length, filter, is_eligible}
use Rattle.batcher_votes.proofs.verifier.buffer.Buffer.restore.Given as goal

-- What is in the buffer and what is still to come are all of it, and there is room for what is to
-- come.
abbrev pub invariant-loop-vote : goal.invariant-loop-vote
invariant-loop-vote g l = record {
  next : (goal.iterator-loop-vote g).can_next l.votes
      × (goal.iterator-loop-vote g).is_finite l.votes;
  all : l.self.votes ++ filter (is_eligible g.D.PartialEq.eq (Some l.proposal)) l.votes
      ≡ l.initial.self.votes ++ filter (is_eligible g.D.PartialEq.eq (Some l.proposal))
      l.initial.votes;
  room : length (filter (is_eligible g.D.PartialEq.eq (Some l.proposal)) l.votes) ≤ l.self.room;
}
