pub mod Reading
pub mod Rebuilt
pub mod Told
pub mod RingLaws
pub mod Parts
pub mod Needed
pub mod Deciding
