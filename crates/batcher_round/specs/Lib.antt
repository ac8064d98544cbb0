pub mod Observations
pub mod Next
pub mod Verdicts
pub mod BallotsView
pub mod RoundWords
