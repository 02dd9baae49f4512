pub mod Orders
pub mod Mentions
pub mod Occurs
pub mod Texts
pub mod Checks
