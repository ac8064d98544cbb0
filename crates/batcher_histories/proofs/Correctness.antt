-- What a step keeps right of a round, by what is held alone.

pub mod Kept
pub mod Admission
pub mod Own
pub mod Room
pub mod Attempt
pub mod Missing
