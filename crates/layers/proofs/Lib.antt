pub mod Growing
pub mod Visiting
pub mod Walking
pub mod Spreading
pub mod Layers
