use Rattle.batcher_journal.proofs.Words.{length, refl, subst, take, ◌∙◌, IsFree}
use Rattle.batcher_journal.proofs.Indexing.{both_free, rest}
use Rattle.batcher_journal.proofs.indexed.IndexedVotes.find.Goals as goal

pub returns-in-None-clause-none : goal.returns-in-None-clause-none
returns-in-None-clause-none g c =
    λ none.
    subst (λ vs. IsFree g.D.PartialEq.eq vs c.args.subject.now) c.self.view_is
    (both_free g.D.PartialEq.eq c.self.inside.votes.items c.self.inside.index.items c.self.invariant c.args.subject.now c.len.result
    (c.len.ensures ∙ c.self.inside.index.ok.0)
    (subst (λ its. IsFree g.D.PartialEq.eq (take (length its) c.self.inside.votes.items) c.args.subject.now) c.deref-2.ensures.value
    (subst (λ vs. IsFree g.D.PartialEq.eq (take (length c.deref-2.result.now) vs) c.args.subject.now) c.deref.ensures.value
    (c.in-None.ensures.none refl)))
    (subst (λ vs. IsFree g.D.PartialEq.eq vs c.args.subject.now)
    (rest c.len.result c.deref-in-None.result.now c.self.inside.votes.items c.deref-in-None.ensures.value)
    (c.find_among.ensures.none none)))
