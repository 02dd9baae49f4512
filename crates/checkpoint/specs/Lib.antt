pub mod Copies
pub mod Restoring
pub mod Saving
pub mod Workers
