pub mod Words
pub mod OwnVotes
pub mod OwnCertificates
pub mod InRound
pub mod Construction
pub mod Otherwise
pub mod Assembling
