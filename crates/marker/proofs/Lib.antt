pub mod Begin
pub mod Checks
pub mod Gather
pub mod Loop
pub mod Owners
pub mod Settling
pub mod Stages
