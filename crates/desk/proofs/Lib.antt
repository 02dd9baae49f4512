pub mod Checks
pub mod Bounded
pub mod Passed
pub mod Kept
pub mod Schedule
