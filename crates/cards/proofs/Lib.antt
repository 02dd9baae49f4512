pub mod Rounds
pub mod Zeros
