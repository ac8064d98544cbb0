pub mod Plain
pub mod Lawful
pub mod Steps
