pub mod BlackBits
pub mod HeadLaws
