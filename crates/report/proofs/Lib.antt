pub mod Opening
pub mod Ordering
pub mod Parts
pub mod Printed
pub mod Reading
pub mod Sweeping
