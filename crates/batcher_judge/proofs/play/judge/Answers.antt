use Rattle.batcher_judge.proofs.Words.{rules, ◌≡◌, map, length, sym, subst, attests, AllTrue}
use Rattle.batcher_judge.specs.contracts.marked.MarkedTruth.TheImpl.{ghosts}
use Rattle.batcher_judge.proofs.play.judge.Goals as goal

-- the round's scheme is still the one by which the verdicts are
pub try_construct-requires : goal.try_construct-requires
try_construct-requires g c =
    let truth = attests ghosts c.args.scheme.now.keys (length c.args.scheme.now.participants) in
    let same : c.hear_late.new.round.scheme ≡ c.args.scheme.now = search rules in
    let judged : c.as_slice-3.result.now ≡ map (truth c.in-Some.wanted.subject) c.as_slice-2.result.now = search rules in
    let all = c.record.ensures.truths truth c.requires.truths judged in
    record { truths = subst (λ s. AllTrue (attests ghosts s.keys (length s.participants)) c.record.new.self) (sym same) all }

pub returns-in_default-2-clause-truths : goal.returns-in_default-2-clause-truths
returns-in_default-2-clause-truths g c =
    let truth = attests ghosts c.args.scheme.now.keys (length c.args.scheme.now.participants) in
    let judged : c.as_slice-3.result.now ≡ map (truth c.in-Some.wanted.subject) c.as_slice-2.result.now = search rules in
    c.try_construct.ensures.truths truth (c.record.ensures.truths truth c.requires.truths judged)

pub returns-clause-truths : goal.returns-clause-truths
returns-clause-truths g c =
    let truth = attests ghosts c.args.scheme.now.keys (length c.args.scheme.now.participants) in
    let judged : c.as_slice-3.result.now ≡ map (truth c.in-Some.wanted.subject) c.as_slice-2.result.now = search rules in
    c.try_construct.ensures.truths truth (c.record.ensures.truths truth c.requires.truths judged)
