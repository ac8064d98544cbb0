use Rattle.batcher_journal.proofs.Words.{subst, sym, ◌∷◌, [], IsIndex}
use Rattle.batcher_journal.proofs.Indexing.{longer}
use Rattle.batcher_journal.proofs.indexed.IndexedVotes.push.Goals as goal

pub invariant_of-self-2 : goal.invariant_of-self-2
invariant_of-self-2 g c =
    subst (λ vs. IsIndex vs c.self.inside.index.items) (sym c.in_ok-push.ensures.items)
    (longer g.D.PartialEq.eq c.self.inside.votes.items c.self.inside.index.items c.self.invariant (c.args.vote ∷ []))
