pub mod Listing
pub mod Tallying
