pub mod Finishing
pub mod Calling
