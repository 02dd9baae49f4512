pub mod Claiming
pub mod Following
