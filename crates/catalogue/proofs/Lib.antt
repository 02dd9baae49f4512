pub mod Faults
pub mod Forms
pub mod Leases
pub mod Checking
pub mod Accepted
pub mod Reader
pub mod Acceptance
pub mod Accepting
