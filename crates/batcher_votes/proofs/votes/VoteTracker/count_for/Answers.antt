use Rattle.batcher_votes.proofs.Words.{◌∙◌, Some, length, filter, sym, ap, of_kind, is_eligible, marks_of, part, vote_at, votes_in, kept_among}
use Rattle.batcher_votes.proofs.TrackerLemmas.KeptVotes.{length-filter_map, kept_shown}
use Rattle.batcher_votes.proofs.TrackerLemmas.SignerFacts.{kept_is}
use Rattle.batcher_votes.proofs.votes.VoteTracker.count_for.Goals as goal

pub returns-clause-count : goal.returns-clause-count
returns-clause-count g c =
    let marks = marks_of c.self.inside.compacted in
    let votes = votes_in c.self.inside.kept in
    let es = c.self.inside.entries.items in
    let p = is_eligible g.D.PartialEq.eq (Some c.args.proposal.now) in
    rw (← c.self.view_is)
    ((rw c.as_slice.ensures.items at c.count_for.ensures) ∙ length-filter_map (λ e. vote_at (of_kind votes c.args.kind) (part c.args.kind e)) p es
    ∙ sym (ap (λ votes. length (filter p votes)) (kept_shown marks votes es c.args.kind (c.self.invariant.kinds c.args.kind))))

pub returns-clause-none : goal.returns-clause-none
returns-clause-none g c =
    let marks = marks_of c.self.inside.compacted in
    let votes = votes_in c.self.inside.kept in
    let es = c.self.inside.entries.items in
    let p = is_eligible g.D.PartialEq.eq (Some c.args.proposal.now) in
    let count = rw (← c.self.view_is) at (returns-clause-count g c) in
    rw (← c.self.view_is)
    (λ on. count ∙ ap (λ votes. length (filter p votes))
    (kept_is marks votes es c.args.kind ∙ ap (λ b. kept_among b (of_kind votes c.args.kind) c.args.kind es) on))
