use Rattle.batcher_journal.proofs.Words.{◌∙◌, sym}
use Rattle.batcher_journal.proofs.Indexing.{all_earlier, first_later, nowhere}
use Rattle.batcher_journal.proofs.indexed.has_one_indexed.Goals as goal

pub returns-then-place-index-clause-no : goal.returns-then-place-index-clause-no
returns-then-place-index-clause-no g c = λ other.
    first_later c.args.votes.now c.args.index.now c.requires c.args.round c.place_of-place.result
    c.place_of-place.ensures.before nowhere c.index-votes-entry.result c.if-place-index.true
    c.place_of-place.ensures.behind c.index-votes-entry.is (cc (other, c.eq.ensures, c.round.ensures))

pub returns-clause-no : goal.returns-clause-no
returns-clause-no g c = λ none.
    all_earlier c.args.votes.now c.args.index.now c.requires c.args.round c.place_of-place.result
    c.place_of-place.ensures.before c.if-place-index.false
