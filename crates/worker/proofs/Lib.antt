pub mod Blocks
pub mod Copy
pub mod Cutting
pub mod Ends
pub mod Next
pub mod Pairs
pub mod Parting
pub mod Settling
