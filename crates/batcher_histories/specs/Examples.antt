-- Worked examples: what small rounds answer, computed from the definitions.

pub mod Answers
pub mod Blocks
pub mod Certificates
pub mod Honest
pub mod Replays
