-- What proofs of this crate use of definitions, and of lemmas from below it.
pub use Rattle.std.proofs.Common.{inl, inr, get_or, refl, ap, sym, subst, arith, ◌∙◌, ⊎_elim, append_assoc, rules, w64}
pub use Rattle.std.proofs.lemmas.Bool.{and_parts, cases_Bool, and_left, and_right, or_left, or_right, or_cases, or_parts, true≢false, and_from, eqb-true}
pub use Rattle.std.proofs.lemmas.Bool.{eq-eqb}
pub use Rattle.std.proofs.lemmas.Bool.Decides.{nat_tests, Decides-and, Decides-eqb}
pub use Rattle.std.proofs.lemmas.Cmp.{nat_eq_equiv, nat_cmp_total, ranked, alike_right}
pub use Rattle.std.proofs.lemmas.Grind.{common_steps}
pub use Rattle.std.proofs.lemmas.List.{get_or_read, append-nil}
pub use Rattle.std.proofs.lemmas.List.Elements.{All-set, filter_agree, filter-append}
pub use Rattle.std.proofs.lemmas.List.Sorted.{All-permutation, IsPermutation-sym, IsPermutation-map, searchable_from_sorted, answers_always}
pub use Rattle.std.proofs.lemmas.List.Sorted.{IsNonDecreasingBy-from_sort_by_key, length_permutation}
pub use Rattle.std.proofs.lemmas.List.Sums.{position_or_len_is}
pub use Rattle.std.proofs.lemmas.Map.Keys.{IsDistinct-IsPermutation, Less-from_sorted, apart_from_distinct, sorted_from_all_adjacent, IsDistinct-from_apart}
pub use Rattle.std.proofs.lemmas.Option.{none-some, get_or_from_slice_get, slice_get_within, slice_get-get_or, gets}
pub use Rattle.std.proofs.lemmas.Slice.Eq.{slice_eq-Decides}
pub use Rattle.std.specs.Bool.{Decides}
pub use Rattle.std.specs.Cmp.{IsTotalOrder}
pub use Rattle.std.specs.Int.{to_be_bytes}
pub use Rattle.std.specs.List.{AllByRecursion, All, AllAdjacentBelow, list_all, list_any, position_or_len, IsDistinct, AllPass}
pub use Rattle.std.specs.List.Sorted.{IsPermutation, IsNonDecreasingBy, IsPartitionPoint, IsSearchInRange, IsBinarySearchResult, IsSortedBy, IsSorted}
pub use Rattle.std.specs.Option.{option_map, option_copied}
pub use Rattle.std.specs.Ordering.{nat_cmp, is_lt, ordering_index, is_eq}
pub use Rattle.std.specs.Prelude.{◌≡◌, ◌≢◌, ◌≤◌, ◌<◌, ◌+◌, ◌-◌, ℕ, suc, zero, Bool, true, false, cond, nat_eq, nat_lt, nat_le, ◌⊎◌, List, [], ◌∷◌, ◌++◌, length}
pub use Rattle.std.specs.Prelude.{set, take, drop, find, Some, None, map, Result, Ok, Err, IfOk, IfErr, ◌/◌, ◌==◌, ◌&&◌, ◌||◌, not, filter, position, slice_get}
pub use Rattle.std.specs.Prelude.{Option, is_some, vec_len}
pub use Rattle.std.specs.declared.cmp.Ordering.{Ordering}
pub use Rattle.std.specs.declared.cmp.Ordering.TheVariants.{Less, Equal, Greater}
pub use Rattle.batcher_types.specs.Ascending.{insert_by, ordered_by, is_ascending}
pub use Rattle.batcher_types.specs.Attestations.{index_of_signer, failing, signers}
pub use Rattle.batcher_types.specs.Hashed.{round_bytes, proposal_bytes, hashed_subject, is_signed}
pub use Rattle.batcher_types.specs.Items.{Items, item_of, is_new}
pub use Rattle.batcher_types.specs.Keys.{participant}
pub use Rattle.batcher_types.specs.Lists.{EachOnce, count, SameElements, ElementsWithin, is_some_and}
pub use Rattle.batcher_types.specs.Ordered.{rec_from_all, all_from_rec, rec_weaker, insert-all, insert-ascending, ordered-all, ordered-ascending, once_head}
pub use Rattle.batcher_types.specs.Ordered.{once_tail, differ, is_ascending-true}
pub use Rattle.batcher_types.specs.Quorum.{quorum_of}
pub use Rattle.batcher_types.specs.Votes.{is_kind, same_round, same_proposal, same_subject}
pub use Rattle.batcher_types.specs.declared.messages.Attestation.{Attestation}
pub use Rattle.batcher_types.specs.declared.messages.Kind.{Kind}
pub use Rattle.batcher_types.specs.declared.messages.Kind.TheVariants.{Notarization, Nullification, Finalization}
pub use Rattle.batcher_types.specs.declared.messages.Proposal.{Proposal}
pub use Rattle.batcher_types.specs.declared.messages.Subject.{Subject}
pub use Rattle.batcher_types.specs.declared.messages.Subject.TheVariants.{Notarize as NotarizeSubject, Nullify as NullifySubject, Finalize as FinalizeSubject}
pub use Rattle.batcher_types.specs.declared.positions.Round.{Round}
pub use Rattle.batcher_types.specs.declared.positions.keys.SetFault.{SetFault}
pub use Rattle.batcher_types.specs.declared.positions.keys.SetFault.TheVariants.{Duplicate, TooMany}
pub use Rattle.batcher_types.specs.declared.scheme.keyed.Name.{Name}
pub use Rattle.rand_core.proofs.StepsLemmas.{meets_fill_bytes, meets_next_u32, meets_next_u64}
pub use Rattle.sha2.specs.Hashers.{Holds256}
pub use Rattle.sha2.specs.Sha256.{sha256}
