pub mod Advancing
pub mod Looking
pub mod Onward
pub mod Taking
