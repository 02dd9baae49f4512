pub mod Checks
pub mod Draws
pub mod Words
