pub mod Policy
pub mod Cuts
pub mod Participants
pub mod Agreement
pub mod Lives
pub mod Voters
pub mod Examples
