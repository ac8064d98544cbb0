pub mod Recorded
pub mod Rounds
pub mod Nodes
pub mod Waiting
pub mod Judging
pub mod Wholes
pub mod Calls
pub mod Requests
