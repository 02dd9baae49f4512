pub mod Exact
pub mod Joined
pub mod Kept
pub mod RoundTrip
