pub mod Chain
pub mod Formed
pub mod Graph
pub mod Limits
pub mod Leaving
