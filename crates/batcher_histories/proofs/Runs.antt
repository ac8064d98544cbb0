-- Whole lists of calls, one call at a time.

pub mod Histories
pub mod Grown
pub mod Going
