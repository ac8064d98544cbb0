pub mod Words
pub mod Recording
pub mod Completing
pub mod Viewing
pub mod Waiting
pub mod Requesting
mod Plain
mod Wholes
