-- Each call is simulated: what it leaves represents the history with it.

pub mod Frame
pub mod Buffers
pub mod Restored
pub mod Released
pub mod Resting
pub mod Recorded
pub mod FirstVotes
pub mod EligibleVotes
pub mod Network
pub mod Own
pub mod Construct
pub mod Outcomes
pub mod Evidence
pub mod Settled
pub mod Staying
