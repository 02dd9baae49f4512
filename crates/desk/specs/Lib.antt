pub mod Limits
pub mod Lengths
pub mod Checks
pub mod Drawn
pub mod Length
pub mod Kept
