use Rattle.batcher_votes.proofs.Words.{◌∙◌, ap, sym, refl, nat_eq, find, of_kind, is_seen_for, entry_key, marks_of, observed_seen, votes_in}
use Rattle.batcher_votes.proofs.TrackerLemmas.RecordVote.{observed_found}
use Rattle.batcher_votes.proofs.votes.VoteTracker.has_vote_at.Goals as goal

pub returns : goal.returns
returns g c = λ i is.
    let marks = marks_of c.self.inside.compacted in
    let votes = votes_in c.self.inside.kept in
    let es = c.self.inside.entries.items in
    let is_for = is_seen_for g.D.PartialEq.eq c.args.proposal.now in
    let seen = c.seen_at-seen.ensures.seen i (rw (← c.self.view_is) at is) in
    rw (← c.self.view_is)
    (c.is_seen_for.ensures i ∙ ap (λ s. is_for (observed_seen i (of_kind votes c.args.kind) s)) seen
    ∙ ap is_for (sym (observed_found marks votes es c.args.kind i (find (λ e. nat_eq (entry_key e) i) es) c.seen_at-seen.ensures.ascending
    (c.self.invariant.kinds c.args.kind).each refl)))
