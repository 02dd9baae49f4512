pub mod Adder
pub mod Bag
pub mod Drawings
