pub mod Ready
pub mod Calling
