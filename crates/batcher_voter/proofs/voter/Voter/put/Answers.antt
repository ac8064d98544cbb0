use Rattle.batcher_voter.proofs.Words.{◌++◌, ◌∙◌, [], ◌∷◌, ap, inl, subst, sym, vote_format, MayBeWrittenBehind, WriteLeaves, IsText}
use Rattle.batcher_voter.proofs.voter.Voter.put.Goals as goal

pub returns-in-Ok-clause-not_free : goal.returns-in-Ok-clause-not_free
returns-in-Ok-clause-not_free g c = λ e follow.
    let contents = c.args.self.now.journal.contents in
    c.write_all.ensures.not_free e
    (subst (λ votes. MayBeWrittenBehind g.D.PartialEq.eq contents.floor contents.votes votes)
    (sym (c.deref.ensures.value ∙ c.in-Ok.ensures.items
    ∙ ap (λ before. before ++ c.args.vote.now ∷ []) c.new-one.ensures.items)) follow)

pub returns-in-Ok-clause-leaves : goal.returns-in-Ok-clause-leaves
returns-in-Ok-clause-leaves g c = λ left honest may.
    subst (λ votes. WriteLeaves (vote_format g.S.Signature.Codec.format g.D.Codec.format) g.D.PartialEq.eq
    c.args.self.now.journal votes left)
    (c.deref.ensures.value ∙ c.in-Ok.ensures.items
    ∙ ap (λ before. before ++ c.args.vote.now ∷ []) c.new-one.ensures.items)
    (c.write_all.ensures.leaves left honest may)

pub returns-clause-leaves : goal.returns-clause-leaves
returns-clause-leaves g c = λ left honest may.
    let journal = c.args.self.now.journal in
    let disk = c.is_open.ensures.on_disk c.requires in
    inl (subst (λ text. IsText (vote_format g.S.Signature.Codec.format g.D.Codec.format) text journal.contents)
    (sym (g.met.L.Log.settled journal.log left honest disk.0 may)) disk.1)
