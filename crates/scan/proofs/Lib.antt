pub mod Finding
pub mod Counting
pub mod Putting
pub mod Fault
pub mod Calls
