-- When the order of calls is free, and when two runs go alike.

pub mod Reordered
pub mod Free
pub mod Replays
