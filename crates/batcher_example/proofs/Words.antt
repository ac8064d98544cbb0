-- What proofs of this crate use of definitions, and of lemmas from below it.
pub use Rattle.std.proofs.Common.{⊎_elim, get_or, refl, sym, arith}
pub use Rattle.std.proofs.lemmas.List.{take_more, map-append}
pub use Rattle.std.specs.Prelude.{◌≡◌, ◌<◌, ◌+◌, ◌&&◌, nat_lt, nat_eq, ℕ, length, filter, map, take, not, Bool, true, false, List, [], ◌∷◌, ◌++◌}
pub use Rattle.batcher.specs.Attestations.{failing, signers}
pub use Rattle.batcher.specs.answers.Answer.TheVariants.{Network as NetworkAnswer}
pub use Rattle.batcher.specs.calls.Call.TheVariants.{Network as NetworkCall}
pub use Rattle.batcher_node.proofs.SendingKept.{keeps_known, keeps_unheard, keeps_heard, still_unblocked}
pub use Rattle.batcher_node.specs.Nodes.{node_config}
