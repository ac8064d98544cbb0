use Rattle.batcher_types.proofs.Words.{◌≡◌, ◌++◌, rules, IsNonDecreasingBy-from_sort_by_key, index_of_signer}
use Rattle.batcher_types.proofs.AscendingLemmas.{ordered_from_sort}
use Rattle.batcher_types.proofs.scheme.keyed.in_order.Goals as goal

pub returns : goal.returns
returns c =
    let joined : c.extend_from_slice-2.new.self.items ≡ c.args.prior.now ++ c.args.fresh.now
    = rw (c.in_ok-extend_from_slice-2.ensures.items, c.in_ok-extend_from_slice.ensures.items, c.in_ok-all.ensures.items) in
    ordered_from_sort index_of_signer (c.args.prior.now ++ c.args.fresh.now) c.sort_unstable_by_key.new.self.items c.requires
    (rw joined at c.sort_unstable_by_key.ensures.permutation)
    (IsNonDecreasingBy-from_sort_by_key index_of_signer c.sort_unstable_by_key.new.self.items c.sort_unstable_by_key.ensures.sorted (λ a r q k. search rules))
