-- Whom votes block, what is reported, and what the honest can rely on.

pub mod Refused
pub mod Blocked
pub mod Caused
pub mod Contrary
pub mod Reported
pub mod Own
pub mod Honest
pub mod Sent
pub mod Constructions
pub mod Flood
