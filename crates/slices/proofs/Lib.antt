pub mod Clearing
pub mod LittleEndian
pub mod BitWords
pub mod Filling
pub mod Written
