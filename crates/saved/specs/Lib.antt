pub mod Calls
pub mod Drawn
pub mod Layout
pub mod Sound
pub mod Test
pub mod Unsound
pub mod Words
