-- Where memory may be needed, and where it is not.

pub mod Spared
pub mod Needed
