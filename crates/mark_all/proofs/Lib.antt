pub mod Taking
pub mod Calling
