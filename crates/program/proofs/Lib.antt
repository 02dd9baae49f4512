pub mod Passing
pub mod Printed
pub mod Promise
