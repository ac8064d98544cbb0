-- What holds of histories by themselves.

pub mod Laws
pub mod Distinct
pub mod Past
pub mod Selection
pub mod Attempts
pub mod ByFirst
