pub mod Layout
pub mod Reading
pub mod Import
pub mod Export
pub mod Steps
pub mod Promise
pub mod Drawings
