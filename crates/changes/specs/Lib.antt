pub mod Pairs
pub mod Stores
pub mod Marking
pub mod Filling
pub mod Taking
pub mod Promise
