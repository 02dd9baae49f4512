pub mod Dividing
pub mod Polling
