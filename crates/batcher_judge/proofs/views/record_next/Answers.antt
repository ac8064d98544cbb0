use Rattle.batcher_judge.proofs.Words.{rules, ◌≡◌, map, length, attests}
use Rattle.batcher_judge.specs.contracts.marked.MarkedTruth.TheImpl.{ghosts}
use Rattle.batcher_judge.proofs.views.record_next.Goals as goal

pub returns : goal.returns
returns g c =
    let truth = attests ghosts c.args.scheme.now.keys (length c.args.scheme.now.participants) in
    let judged : c.as_slice.result.now ≡ map (truth c.in-Some-wanted.wanted.subject) c.in-Some-wanted.wanted.pending.now = search rules in
    c.record.ensures.truths truth c.requires judged
