pub mod MarkLaws
