-- A releasing round beside a retaining one.

pub mod Alike
pub mod Together
pub mod Compared
pub mod Blocked
pub mod Keys
pub mod Missing
pub mod Own
pub mod Beside
pub mod Runs
