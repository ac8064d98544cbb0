use Rattle.batcher_votes.proofs.Words.{◌∙◌, ap, insert_by, entry_key, with_part}
use Rattle.batcher_votes.proofs.TrackerLemmas.RecordVote.{inserted_at}
use Rattle.batcher_votes.proofs.votes.insert_entry.Goals as goal

pub returns-clause-items : goal.returns-clause-items
returns-clause-items c =
    c.insert_at.ensures.items
    ∙ ap (λ e. insert_by entry_key e c.args.entries.now.items) (c.set.ensures ∙ ap (with_part c.args.kind c.args.seen) c.unseen-entry.ensures)
    ∙ inserted_at c.args.entries.now.items c.args.signer c.args.kind c.args.seen c.args.index c.requires.place
