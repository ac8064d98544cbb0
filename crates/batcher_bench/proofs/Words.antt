-- What proofs of this crate use of definitions, and of lemmas from below it.
pub use Rattle.std.specs.Prelude.{◌≡◌}
pub use Rattle.batcher_rows.specs.declared.plan.TheConstants.{NUMBER}
