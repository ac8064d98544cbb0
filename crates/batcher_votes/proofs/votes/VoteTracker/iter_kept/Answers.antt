use Rattle.batcher_votes.proofs.Words.{sym, marks_of, votes_in}
use Rattle.batcher_votes.proofs.TrackerLemmas.KeptVotes.{keeps_each, kept_shown}
use Rattle.batcher_votes.proofs.votes.VoteTracker.iter_kept.Goals as goal

pub returns-clause-votes : goal.returns-clause-votes
returns-clause-votes g c =
    rw (c.as_slice.ensures.items, ← c.self.view_is)
    (sym (kept_shown (marks_of c.self.inside.compacted) (votes_in c.self.inside.kept) c.self.inside.entries.items c.args.kind
    (c.self.invariant.kinds c.args.kind)))

pub returns-clause-each : goal.returns-clause-each
returns-clause-each g c =
    rw (← c.self.view_is)
    (keeps_each (marks_of c.self.inside.compacted) (votes_in c.self.inside.kept) c.self.inside.entries.items c.args.kind c.as_slice.ensures.ascending)
