pub mod Names
pub mod Mentions
pub mod Call
pub mod Lent
pub mod Occurs
pub mod Drawings
