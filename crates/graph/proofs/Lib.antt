pub mod Formed
pub mod Reached
pub mod Scan
pub mod View
pub mod OverMarked
pub mod Grouped
