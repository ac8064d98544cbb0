-- What holds throughout of the answers to a list of calls.

pub mod Told
pub mod Facts
pub mod ByDefinition
