pub mod Words
pub mod Calling
pub mod Finding
mod Listing
pub mod Dropping
pub mod Counting
pub mod Representation
pub mod Answering
pub mod Forwarding
pub mod Promising
pub mod Lowest
mod Blocking
mod Causing
mod Tending
pub mod Rested
pub mod SendingViews
mod Agreed
pub mod SendingBlocks
pub mod SendingCertificates
mod SendingWorked
pub mod SendingKept
pub mod DueLemmas
pub mod DueRounds
