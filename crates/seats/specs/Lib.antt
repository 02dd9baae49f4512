pub mod Rounding
