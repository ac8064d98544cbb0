use Rattle.batcher_journal.proofs.Words.{ap, refl, subst, sym, take, ◌∙◌, IsFree, is_below}
use Rattle.batcher_journal.proofs.Following.{all_follow, more_follow, not_new, not_old}
use Rattle.batcher_journal.proofs.Indexing.{met_not_free}
use Rattle.batcher_journal.proofs.asking.may_follow.Goals as goal
use Rattle.batcher_journal.proofs.Words.{round_in}

pub returns-in-Some : goal.returns-in-Some
returns-in-Some g c =
    not_old g.D.PartialEq.eq c.args.floor c.args.old.now c.args.votes.now c.loop-i.i c.index-votes-i.result
    c.loop-i-test.true c.index-votes-i.is
    (subst (λ s. IsFree g.D.PartialEq.eq c.args.old.now s → ⊥) c.subject-subject.ensures
    (met_not_free g.D.PartialEq.eq c.args.old.now c.subject-subject.result _ c.in-Some.ensures.some))

pub returns-in-Some-find_among : goal.returns-in-Some-find_among
returns-in-Some-find_among g c =
    not_new g.D.PartialEq.eq c.args.floor c.args.old.now c.args.votes.now c.loop-i.i c.index-votes-i.result
    c.loop-i-test.true c.index-votes-i.is
    (subst (λ s. IsFree g.D.PartialEq.eq (take c.loop-i.i c.args.votes.now) s → ⊥) c.subject-subject.ensures
    (met_not_free g.D.PartialEq.eq (take c.loop-i.i c.args.votes.now) c.subject-subject.result _ c.in-Some-find_among.ensures.some))

pub loop-i-preserved : goal.loop-i-preserved
loop-i-preserved g c =
    more_follow g.D.PartialEq.eq c.args.floor c.args.old.now c.args.votes.now c.loop-i.i c.index-votes-i.result
    c.loop-i-test.true c.index-votes-i.is c.loop-i.invariant
    (subst (IsFree g.D.PartialEq.eq c.args.old.now) c.subject-subject.ensures (c.in-None.ensures.none refl))
    (subst (IsFree g.D.PartialEq.eq (take c.loop-i.i c.args.votes.now)) c.subject-subject.ensures
    (c.in-None-find_among.ensures.none refl))
    (ap (is_below c.args.floor) (ap round_in (sym c.subject-subject.ensures) ∙ sym c.round.ensures) ∙ sym c.if-is_before.ensures)

pub returns : goal.returns
returns g c =
    all_follow g.D.PartialEq.eq c.args.floor c.args.old.now c.args.votes.now c.loop-i.i c.loop-i-test.false
    c.loop-i.invariant
