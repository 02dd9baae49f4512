pub mod Trees
pub mod Contents
pub mod Adder
pub mod Adding
pub mod Joining
