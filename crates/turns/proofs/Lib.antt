pub mod Statuses
pub mod Waking
