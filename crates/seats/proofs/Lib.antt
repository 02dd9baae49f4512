pub mod Dealing
pub mod Seating
