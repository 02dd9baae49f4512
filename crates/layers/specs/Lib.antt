pub mod Hops
pub mod Search
pub mod Drawings
