pub mod Words
mod Counting
pub mod Voting
mod Certifying
mod Agreeing
mod Living
mod Cutting
mod Worked
