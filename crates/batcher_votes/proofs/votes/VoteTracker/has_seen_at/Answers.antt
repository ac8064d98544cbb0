use Rattle.batcher_votes.proofs.Words.{◌∙◌, ap, refl, nat_eq, find, entry_key, marks_of, is_any, votes_in}
use Rattle.batcher_votes.proofs.TrackerLemmas.RecordVote.{has_seen}
use Rattle.batcher_votes.proofs.votes.VoteTracker.has_seen_at.Goals as goal

pub returns : goal.returns
returns g c = λ i is.
    let marks = marks_of c.self.inside.compacted in
    let votes = votes_in c.self.inside.kept in
    let es = c.self.inside.entries.items in
    let seen = c.seen_at.ensures.seen i (rw (← c.self.view_is) at is) in
    rw (← c.self.view_is)
    (c.is_any.ensures ∙ ap is_any seen
    ∙ has_seen marks votes es c.args.kind i (find (λ e. nat_eq (entry_key e) i) es) c.seen_at.ensures.ascending
    (c.self.invariant.kinds c.args.kind).each refl)
