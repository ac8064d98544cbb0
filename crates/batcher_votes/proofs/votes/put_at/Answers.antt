use Rattle.batcher_votes.proofs.Words.{◌≡◌, ◌∙◌, sym, map, Ok, place_of, entry_key, nothing_seen, place_below}
use Rattle.batcher_votes.proofs.TrackerLemmas.RecordVote.{changed_at}
use Rattle.batcher_votes.proofs.votes.put_at.Goals as goal

pub set_at-requires : goal.set_at-requires
set_at-requires c =
    let place : place_of (map entry_key c.args.entries.now.items) c.args.signer.0 ≡ Ok c.in-Ok.index = sym c.requires.place ∙ c.in-Ok.is in
    place_below entry_key c.args.entries.now.items c.args.signer.0 c.in-Ok.index place

pub returns-in-Ok-clause-items : goal.returns-in-Ok-clause-items
returns-in-Ok-clause-items c =
    let place : place_of (map entry_key c.args.entries.now.items) c.args.signer.0 ≡ Ok c.in-Ok.index = sym c.requires.place ∙ c.in-Ok.is in
    c.set_at.ensures.items (nothing_seen c.args.signer)
    ∙ changed_at c.args.entries.now.items c.args.signer c.args.kind c.args.seen c.in-Ok.index (nothing_seen c.args.signer) c.set_at.ensures.ascending place
