use Rattle.batcher_journal.proofs.Words.{ap, refl, subst, sym, take, [], ◌++◌, ◌∙◌, ◌∷◌, take_more, All-nil, IsFree, LeavesFree, is_below}
use Rattle.batcher_journal.proofs.Following.{all_follow, more_follow}
use Rattle.batcher_journal.proofs.contents.indexed.Goals as goal
use Rattle.batcher_journal.proofs.Words.{round_in, subject_of}

pub loop-vote-preserved : goal.loop-vote-preserved
loop-vote-preserved g c =
    let i = c.loop-vote.vote-index in
    let vote = c.vote-item.result in (
      c.index_more.ensures ∙ c.in_ok-push.ensures ∙ ap (λ vs. vs ++ vote ∷ []) c.loop-vote.invariant.0
          ∙ ap (λ v. take i c.args.votes.now ++ v ∷ []) c.vote-item.is
          ∙ sym (take_more c.args.votes.now i vote c.loop-vote-test.true),
      more_follow g.D.PartialEq.eq c.args.floor [] c.args.votes.now i vote c.loop-vote-test.true c.vote-item.is
          c.loop-vote.invariant.1 (All-nil (LeavesFree g.D.PartialEq.eq (subject_of vote)))
          (subst (λ vs. IsFree g.D.PartialEq.eq vs (subject_of vote)) c.loop-vote.invariant.0
          (subst (IsFree g.D.PartialEq.eq c.loop-vote.all) c.subject-subject.ensures (c.in-None.ensures.none refl)))
          (ap (is_below c.args.floor) (ap round_in (sym c.subject-subject.ensures) ∙ sym c.round.ensures) ∙ sym c.if-is_before.ensures),
    )

pub returns-clause-followed : goal.returns-clause-followed
returns-clause-followed g c =
    all_follow g.D.PartialEq.eq c.args.floor [] c.args.votes.now c.loop-vote.vote-index c.loop-vote-test.false c.loop-vote.invariant.1
