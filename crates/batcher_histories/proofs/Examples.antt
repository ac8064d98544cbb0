-- The worked examples, computed.

pub mod Answers
pub mod Certificates
pub mod Blocks
pub mod Honest
pub mod Replays
