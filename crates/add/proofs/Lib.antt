pub mod Marked
pub mod Backwards
pub mod Pieces
