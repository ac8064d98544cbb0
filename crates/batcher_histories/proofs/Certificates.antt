-- What is behind certificates, which agree, and how soon they come.

pub mod Backing
pub mod Agree
pub mod Timing
