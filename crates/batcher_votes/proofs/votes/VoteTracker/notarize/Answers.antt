use Rattle.batcher_votes.proofs.Words.{◌∙◌, ap, sym, refl, nat_eq, find, Notarization, entry_key, marks_of, vote_at, votes_in}
use Rattle.batcher_votes.proofs.TrackerLemmas.RecordVote.{kept_vote_found}
use Rattle.batcher_votes.proofs.votes.VoteTracker.notarize.Goals as goal

pub returns : goal.returns
returns g c =
    let marks = marks_of c.self.inside.compacted in
    let votes = votes_in c.self.inside.kept in
    let es = c.self.inside.entries.items in
    let i = c.args.signer.0 in
    rw (← c.self.view_is)
    (c.notarize.ensures ∙ ap (λ s. vote_at votes.notarize s) (c.seen_at-seen.ensures.seen i c.place-place.ensures.place)
    ∙ sym (kept_vote_found marks votes es Notarization i (find (λ e. nat_eq (entry_key e) i) es) c.seen_at-seen.ensures.ascending
    (c.self.invariant.kinds Notarization).each refl))
