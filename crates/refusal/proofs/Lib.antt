pub mod Numbers
pub mod None
