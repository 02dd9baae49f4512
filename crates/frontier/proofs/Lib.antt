pub mod RowLaws
pub mod RunLaws
pub mod StretchLaws
pub mod LoadLaws
pub mod WindowLaws
