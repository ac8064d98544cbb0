pub mod SignedQuorums
pub mod SignerLists
pub mod Culprits
pub mod Forks
pub mod Convictions
pub mod Rounds
pub mod Examples
