-- Valid quorums complete in three constructions.

pub mod ValidQuorums
pub mod ValidVotes
pub mod Buffers
pub mod Left
pub mod Done
pub mod Completed
