pub mod Words
pub mod Signing
