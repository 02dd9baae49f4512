pub mod Registers
pub mod Status
pub mod Stretch
