pub mod Call
pub mod Drawings
