-- What proofs of this crate use of definitions, and of lemmas from below it.
pub use Rattle.std.proofs.Common.{rules, sym, subst}
pub use Rattle.std.specs.Prelude.{◌≡◌, map, length, take}
pub use Rattle.batcher_bytes.specs.Listings.{attests}
pub use Rattle.batcher_verdicts.specs.Rounds.{AllTrue}
