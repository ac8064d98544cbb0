use Rattle.batcher_journal.proofs.Words.{arith, rules, IsPartitionPoint-from_clause, is_below}
use Rattle.batcher_journal.proofs.Indexing.{parted}
use Rattle.batcher_journal.proofs.indexed.place_of.Goals as goal

pub returns-clause-before : goal.returns-clause-before
returns-clause-before c =
    let point = IsPartitionPoint-from_clause (λ e. is_below c.args.round e.round) _ _ c.partition_point.ensures.partitioned
    (parted c.args.index.now c.args.round c.requires) (λ a r q k. search rules) in
    λ k d lt. point.0 k d (omega arith) lt

pub returns-clause-behind : goal.returns-clause-behind
returns-clause-behind c =
    let point = IsPartitionPoint-from_clause (λ e. is_below c.args.round e.round) _ _ c.partition_point.ensures.partitioned
    (parted c.args.index.now c.args.round c.requires) (λ a r q k. search rules) in
    λ k d le lt. point.1 k d le lt
