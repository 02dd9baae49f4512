pub mod Deck
pub mod Drawings
pub mod Hand
