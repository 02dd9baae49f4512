pub mod Collected
pub mod Finishing
pub mod Waiting
