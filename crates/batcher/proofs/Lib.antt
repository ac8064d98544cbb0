pub mod Words
pub use Rattle.batcher_types.proofs.CountLemmas
pub use Rattle.batcher_types.proofs.ListLemmas
pub use Rattle.batcher_types.proofs.VoteLemmas
