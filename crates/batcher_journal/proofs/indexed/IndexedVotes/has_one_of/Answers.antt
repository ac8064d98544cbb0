use Rattle.batcher_journal.proofs.Words.{◌∙◌, ◌≡◌, ap, false, length, list_any, refl, round_in, same_round, subject_of, subst, take, Vote}
use Rattle.batcher_journal.proofs.Indexing.{among_others, rest}
use Rattle.batcher_journal.proofs.indexed.IndexedVotes.has_one_of.Goals as goal

pub returns : goal.returns
returns g c =
    let is_of = λ (vote : Vote g.row.G.Denot g.row.D.Denot). same_round (round_in (subject_of vote)) c.args.round in
    c.has_one_among.ensures
    ∙ ap (list_any is_of) (rest c.len.result c.deref-3.result.now c.self.inside.votes.items c.deref-3.ensures.value)
    ∙ among_others c.self.inside.votes.items c.self.inside.index.items c.self.invariant c.args.round c.len.result
    (c.len.ensures ∙ c.self.inside.index.ok.0)
    (subst (λ its. list_any is_of (take (length its) c.self.inside.votes.items) ≡ false) c.deref-2.ensures.value
    (subst (λ vs. list_any is_of (take (length c.deref-2.result.now) vs) ≡ false) c.deref.ensures.value
    (c.if-has_one_indexed.ensures.no refl)))
    ∙ ap (list_any is_of) c.self.view_is
