-- What proofs of this crate use of definitions, and of lemmas from below it.
pub use Rattle.std.proofs.Common.{ap, sym, arith, add-zero, add-one, ◌∙◌}
pub use Rattle.std.proofs.lemmas.List.FromFn.{length-range_with_len}
pub use Rattle.std.proofs.lemmas.List.Sorted.{IsPermutation-trans, length_permutation}
pub use Rattle.std.specs.List.{range_with_len}
pub use Rattle.std.specs.List.Sorted.{IsPermutation}
pub use Rattle.std.specs.Prelude.{◌≡◌, fold, take, filter, All, ◌+◌, ◌++◌, ◌∷◌, [], ℕ, zero, suc, List, length}
pub use Rattle.batcher.specs.Attestations.{failing, signers}
pub use Rattle.batcher_rows.specs.Plain.{mixed, sum_from, is_plainly_signed}
pub use Rattle.batcher_rows.specs.Steps.{IsOfRound}
pub use Rattle.batcher_rows.specs.declared.plan.TheConstants.{NUMBER}
