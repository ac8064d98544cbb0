use Rattle.batcher_votes.proofs.Words.{◌∙◌, refl, nat_eq, find, signer_of, entry_key, marks_of, votes_in}
use Rattle.batcher_votes.proofs.TrackerLemmas.RecordVote.{outcome_here}
use Rattle.batcher_votes.proofs.votes.VoteTracker.outcome_at.Goals as goal

pub returns : goal.returns
returns g c =
    let marks = marks_of c.self.inside.compacted in
    let votes = votes_in c.self.inside.kept in
    let es = c.self.inside.entries.items in
    let vote = c.args.vote.now in
    let i = signer_of vote in
    let seen = c.seen_at-seen.ensures.seen i (rw (← c.self.view_is) at c.requires) in
    let given = rw
    (c.of.ensures, seen, c.is_selected-is_selected.ensures, c.proposal.ensures, c.as_ref.ensures.value, c.kind-kind.ensures) at c.outcome.ensures in
    rw (← c.self.view_is)
    (given ∙ outcome_here g.D.PartialEq.eq marks votes es c.args.proposal vote c.seen_at-seen.ensures.ascending (λ kind. c.self.invariant.kinds kind)
    (find (λ e. nat_eq (entry_key e) i) es) refl)
