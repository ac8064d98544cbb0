use Rattle.batcher_votes.proofs.Words.{◌∙◌, ap, sym, refl, nat_eq, find, of_kind, shown, entry_key, marks_of, observed_seen, votes_in}
use Rattle.batcher_votes.proofs.TrackerLemmas.RecordVote.{observed_found}
use Rattle.batcher_votes.proofs.votes.VoteTracker.saw_at.Goals as goal

pub returns : goal.returns
returns g c = λ i is.
    let marks = marks_of c.self.inside.compacted in
    let votes = votes_in c.self.inside.kept in
    let es = c.self.inside.entries.items in
    let seen = c.seen_at.ensures.seen i (rw (← c.self.view_is) at is) in
    rw (← c.self.view_is)
    (c.observed.ensures i ∙ ap (λ s. shown (observed_seen i (of_kind votes c.args.kind) s)) seen
    ∙ ap shown (sym (observed_found marks votes es c.args.kind i (find (λ e. nat_eq (entry_key e) i) es) c.seen_at.ensures.ascending
    (c.self.invariant.kinds c.args.kind).each refl)))
