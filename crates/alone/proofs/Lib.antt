pub mod Turns
pub mod Parts
pub mod Going
pub mod Ending
