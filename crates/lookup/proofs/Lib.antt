pub mod Tails
pub mod Sliding
pub mod Searching
pub mod Gathering
pub mod Leads
