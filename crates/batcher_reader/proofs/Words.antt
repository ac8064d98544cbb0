-- What proofs of this crate use of definitions, and of lemmas from below it.
pub use Rattle.std.proofs.Common.{refl, ◌∙◌, ap, get_or, arith, add-one, length-append, sym}
pub use Rattle.std.proofs.Math.Bool.{and-true}
pub use Rattle.std.proofs.lemmas.Bool.{eq-eqb, and_right}
pub use Rattle.std.proofs.lemmas.Bool.Decides.{nat_tests}
pub use Rattle.std.proofs.lemmas.Grind.{common_steps}
pub use Rattle.std.proofs.lemmas.List.Elements.{All-push, All-head, All-tail}
pub use Rattle.std.specs.Io.KnownBytes.{Consumes}
pub use Rattle.std.specs.List.{AllZip, AllPass}
pub use Rattle.std.specs.Prelude.{◌≡◌, ℕ, true, List, [], ◌∷◌, ◌&&◌, length, nat_lt, ◌<◌, zero, suc, ◌++◌, take, ◌+◌, ◌≤◌, All, vec_capacity, ◌==◌, Bool, false}
pub use Rattle.std.specs.Prelude.{cond}
pub use Rattle.batcher_histories.specs.Runs.{MayCall}
pub use Rattle.batcher_reader.specs.Calls.{IsCallOf}
pub use Rattle.batcher_types.proofs.CountLemmas.{count-append}
pub use Rattle.batcher_types.specs.Attestations.{index_of_signer}
pub use Rattle.batcher_types.specs.Hashed.{same_bytes}
pub use Rattle.batcher_types.specs.Lists.{count, EachOnce}
pub use Rattle.batcher_types.specs.Quorum.{quorum_of}
