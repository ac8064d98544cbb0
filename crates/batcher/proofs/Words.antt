-- What proofs of this crate use of definitions, and of lemmas from below it.
pub use Rattle.std.proofs.Common.{refl, ap, sym, ◌∙◌, rules, subst, arith, length-append}
pub use Rattle.std.proofs.lemmas.Bool.{cond_both}
pub use Rattle.std.proofs.lemmas.Grind.{common_steps}
pub use Rattle.std.proofs.lemmas.List.{take_more, length-take-le}
pub use Rattle.std.proofs.lemmas.List.Filters.{dedup_is, All-dedup}
pub use Rattle.std.proofs.lemmas.List.Kept.{IsStrictlySortedBy-dedup}
pub use Rattle.std.proofs.lemmas.List.Sorted.{list_any-IsPermutation, All-permutation}
pub use Rattle.std.specs.Cmp.{IsEquivalence}
pub use Rattle.std.specs.List.{list_any, dedup, dedup_from}
pub use Rattle.std.specs.Prelude.{◌≡◌, Err, ◌||◌, Bool, true, false, List, [], ◌∷◌, ◌++◌, ◌+◌, take, ◌≤◌, length, vec_capacity}
pub use Rattle.batcher_histories.proofs.Blocks.Sent.{senders_of_added}
pub use Rattle.batcher_histories.proofs.Examples.Answers.{worked}
pub use Rattle.batcher_histories.proofs.Examples.Blocks.{just}
pub use Rattle.batcher_histories.proofs.Examples.Certificates.{computed}
pub use Rattle.batcher_histories.proofs.Examples.Honest.{honest_computed}
pub use Rattle.batcher_histories.proofs.Examples.Replays.{replay_computed}
pub use Rattle.batcher_histories.proofs.History.Laws.{laws_by, HasLaws}
pub use Rattle.batcher_histories.proofs.KnownLemmas.Named.{own_same}
pub use Rattle.batcher_histories.proofs.Order.Free.{order_is_free}
pub use Rattle.batcher_histories.proofs.Order.Replays.{equal_runs_go_alike}
pub use Rattle.batcher_histories.proofs.Pairs.Runs.{Takes, pair_first, pair_more, pair_ends, pair_stops, pair_stops_later, PairGoes}
pub use Rattle.batcher_histories.proofs.Runs.Going.{Goes, goes_first, goes_more, goes_to, is_promised}
pub use Rattle.batcher_histories.proofs.Runs.Histories.{named}
pub use Rattle.batcher_histories.specs.Blocks.{GaveCause}
pub use Rattle.batcher_histories.specs.Config.{config}
pub use Rattle.batcher_histories.specs.History.{history}
pub use Rattle.batcher_histories.specs.Pairs.{in_mode}
pub use Rattle.batcher_histories.specs.RoundContracts.{round_config}
pub use Rattle.batcher_histories.specs.Steps.{own_result}
pub use Rattle.batcher_votes.specs.declared.votes.Mode.TheVariants.{Retaining, Releasing}
