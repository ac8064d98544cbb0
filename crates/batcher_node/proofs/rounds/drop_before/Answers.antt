use Rattle.batcher_node.proofs.Words.{rules, filter_same_pairs}
use Rattle.batcher_node.proofs.Dropping.{is_kept, kept_from, none_before}
use Rattle.batcher_node.proofs.rounds.drop_before.Goals as goal

pub returns-clause-kept : goal.returns-clause-kept
returns-clause-kept g c =
    let is = filter_same_pairs _ (is_kept c.args.finalized) _ (λ k v b w f' t. search rules)
    c.args.slots.now.entries c.retain.new.self.entries c.retain.ensures.filtered in
    rw is (kept_from c.args.finalized c.args.slots.now.entries)

pub returns-clause-dropped : goal.returns-clause-dropped
returns-clause-dropped g c =
    let is = filter_same_pairs _ (is_kept c.args.finalized) _ (λ k v b w f' t. search rules)
    c.args.slots.now.entries c.retain.new.self.entries c.retain.ensures.filtered in
    rw is (none_before c.args.finalized c.args.slots.now.entries)
