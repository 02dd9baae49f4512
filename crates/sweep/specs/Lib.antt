pub mod Collection
pub mod Sweep
