pub mod Heads
pub mod Ring
