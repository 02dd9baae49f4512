pub mod Filling
pub mod ReadGraph
pub mod Chain
pub mod Subject
