pub mod Words
pub mod TrackerLemmas
pub mod VerifierLemmas
