use Rattle.batcher_verdicts.proofs.Words.{rules, filter_same_pairs, is_kept, kept_from, none_before}
use Rattle.batcher_verdicts.proofs.requests.drop_before.Goals as goal

pub returns-clause-kept : goal.returns-clause-kept
returns-clause-kept g c =
    let is = filter_same_pairs _ (is_kept c.args.first) _ (λ k v b w f' t. search rules)
    c.args.all.now.entries c.retain.new.self.entries c.retain.ensures.filtered in
    rw is (kept_from c.args.first c.args.all.now.entries)

pub returns-clause-gone : goal.returns-clause-gone
returns-clause-gone g c =
    let is = filter_same_pairs _ (is_kept c.args.first) _ (λ k v b w f' t. search rules)
    c.args.all.now.entries c.retain.new.self.entries c.retain.ensures.filtered in
    rw is (none_before c.args.first c.args.all.now.entries)
