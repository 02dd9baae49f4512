pub mod Promise
pub mod Results
pub mod Saving
pub mod Hops
pub mod Updates
pub mod Mentioning
pub mod Blobs
