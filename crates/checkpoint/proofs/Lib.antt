pub mod Numbers
pub mod Parts
pub mod Records
pub mod Restoring
pub mod Resuming
pub mod Running
pub mod Saving
pub mod Putting
