-- The headline: acceptance, blocks, certificates, quorums, and no double work.

pub mod Promises
pub mod Attesting
pub mod Conflicts
pub mod NeverBoth
pub mod Work
