pub mod Collection
pub mod Dead
pub mod Fault
