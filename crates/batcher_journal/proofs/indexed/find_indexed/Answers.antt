use Rattle.batcher_journal.proofs.Words.{subst, sym, true, ◌<◌, ◌∙◌, ◌≡◌, ℕ, ap, get_or, is_below, Entry}
use Rattle.batcher_journal.proofs.Indexing.{before_place, is_there, nowhere, one_searched, searched_all, stopped}
use Rattle.batcher_journal.proofs.indexed.find_indexed.Goals as goal

pub loop-i-init : goal.loop-i-init
loop-i-init g c =
    before_place g.D.PartialEq.eq c.args.votes.now c.args.index.now c.requires g.met.D.Eq.laws c.args.subject.now c.place_of-i.result
    (subst (λ r. (k : ℕ) (d : Entry) → k < c.place_of-i.result
    → is_below r (get_or c.args.index.now k d).round ≡ true) c.round-round.ensures c.place_of-i.ensures.before)

pub returns-then-is_before-clause-none : goal.returns-then-is_before-clause-none
returns-then-is_before-clause-none g c =
    λ none.
    stopped g.D.PartialEq.eq c.args.votes.now c.args.index.now c.requires g.met.D.Eq.laws c.args.subject.now c.loop-i.i nowhere c.loop-i-test.true
    (ap (is_below (get_or c.args.index.now c.loop-i.i nowhere).round) (sym c.round-round.ensures) ∙ sym c.if-is_before.ensures)
    c.loop-i.invariant

pub returns-then-meets-clause-some : goal.returns-then-meets-clause-some
returns-then-meets-clause-some g c = (
  is_there g.D.PartialEq.eq c.args.votes.now c.args.index.now c.requires g.met.D.Eq.laws c.args.subject.now c.loop-i.i nowhere
      c.index-votes-entry.result c.loop-i-test.true c.index-votes-entry.is,
  c.if-meets.ensures,
)

pub loop-i-preserved : goal.loop-i-preserved
loop-i-preserved g c =
    one_searched g.D.PartialEq.eq c.args.votes.now c.args.index.now c.requires g.met.D.Eq.laws c.args.subject.now c.loop-i.i nowhere
    c.index-votes-entry.result c.loop-i-test.true c.index-votes-entry.is
    c.loop-i.invariant c.if-meets.ensures

pub returns-clause-none : goal.returns-clause-none
returns-clause-none g c =
    λ none.
    searched_all g.D.PartialEq.eq c.args.votes.now c.args.index.now c.requires g.met.D.Eq.laws c.args.subject.now c.loop-i.i c.loop-i-test.false
    c.loop-i.invariant
