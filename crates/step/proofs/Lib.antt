pub mod Bounds
pub mod Counting
pub mod Each
pub mod Parts
pub mod Raising
pub mod Ringing
pub mod Turned
