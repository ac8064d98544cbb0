use Rattle.batcher_voter.proofs.Words.{ap, ◌∙◌, rules, filter_same_pairs, slot_at, is_kept, kept_from}
use Rattle.batcher_voter.proofs.knowledge.drop_before.Goals as goal

pub returns : goal.returns
returns g c = λ other within.
    let is = filter_same_pairs _ (is_kept c.args.view) _ (λ k v b w f t. search rules)
    c.args.views.now.entries c.retain.new.self.entries c.retain.ensures.filtered in
    ap (λ es. slot_at es other) is ∙ kept_from c.args.view c.args.views.now.entries other within
