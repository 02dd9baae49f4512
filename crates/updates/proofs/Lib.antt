pub mod Closing
pub mod Checks
