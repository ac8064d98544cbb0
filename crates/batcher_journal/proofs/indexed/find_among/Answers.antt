use Rattle.batcher_journal.proofs.Loops.{all_seen, one_more}
use Rattle.batcher_journal.proofs.indexed.find_among.Goals as goal

pub loop-vote-preserved : goal.loop-vote-preserved
loop-vote-preserved g c =
    one_more g.D.PartialEq.eq c.args.votes.now c.args.subject.now c.loop-vote.vote-index c.vote-item.result
    c.loop-vote-test.true c.vote-item.is c.loop-vote.invariant c.if-meets.ensures

pub returns-clause-none : goal.returns-clause-none
returns-clause-none g c =
    λ none.
    all_seen g.D.PartialEq.eq c.args.votes.now c.args.subject.now c.loop-vote.vote-index
    c.loop-vote-test.false c.loop-vote.invariant
