pub mod Counting
pub mod Held
pub mod Outcome
pub mod Raising
pub mod Ringing
pub mod Turned
