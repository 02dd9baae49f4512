pub mod Deal
pub mod Draw
pub mod Drawings
