pub mod Slices
pub mod Bits
pub mod Filling
pub mod Put
