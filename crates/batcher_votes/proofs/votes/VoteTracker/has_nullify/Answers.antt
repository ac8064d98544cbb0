use Rattle.batcher_votes.proofs.Words.{◌∙◌, ap, refl, nat_eq, find, Nullification, entry_key, marks_of, has_index, votes_in}
use Rattle.batcher_votes.proofs.TrackerLemmas.RecordVote.{has_kept_vote}
use Rattle.batcher_votes.proofs.votes.VoteTracker.has_nullify.Goals as goal

pub returns : goal.returns
returns g c =
    let marks = marks_of c.self.inside.compacted in
    let votes = votes_in c.self.inside.kept in
    let es = c.self.inside.entries.items in
    let i = c.args.signer.0 in
    rw (← c.self.view_is)
    (c.is_kept.ensures ∙ ap has_index (c.seen_at.ensures.seen i c.place-place.ensures.place)
    ∙ has_kept_vote marks votes es Nullification i (find (λ e. nat_eq (entry_key e) i) es) c.seen_at.ensures.ascending
    (c.self.invariant.kinds Nullification).each refl)
