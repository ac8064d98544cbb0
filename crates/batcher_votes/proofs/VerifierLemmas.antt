-- The verifier: the votes that wait, the proposal that is selected, and what comes of an attempt.

pub mod AttemptLaws
pub mod Certificates
pub mod Changes
pub mod CheckedQuorum
pub mod Construction
pub mod FixedProposal
pub mod KindChanges
pub mod RestoredVotes
pub mod Results
pub mod Runs
pub mod Soundness
pub mod Verdicts
pub mod EligibleVotes
