pub mod Words
mod Knowing
pub mod Appending
mod Grounding
mod Clearing
mod Writing
pub mod Windowed
mod Voting
mod Noding
mod Calling
pub mod Keeping
mod Waiting
mod Verifying
pub mod Certifying
pub mod Readable
mod Given
mod Finalizing
mod Beginning
mod Leaving
pub mod Reopening
pub mod Unstarted
