-- What a round that represents a history shows is what the history determines.

pub mod Observed
pub mod Named
pub mod Ready
pub mod AtFirst
