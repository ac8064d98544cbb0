use Rattle.batcher_judge.proofs.Words.{rules, ◌≡◌, length, sym, subst, attests, AllTrue}
use Rattle.batcher_judge.specs.contracts.marked.MarkedTruth.TheImpl.{ghosts}
use Rattle.batcher_judge.proofs.views.judge_next.Goals as goal

-- the node's scheme is still the one by which the verdicts are
pub try_construct_next-requires : goal.try_construct_next-requires
try_construct_next-requires g c =
    let same : c.receive-3.new.node.scheme ≡ c.args.scheme.now = search rules in
    subst (λ s. AllTrue (attests ghosts s.keys (length s.participants)) c.record_next.new.verdicts) (sym same)
    c.in_ok-record_next.ensures
