pub mod Limits
pub mod Program
pub mod Passing
pub mod Promise
pub mod Examples
