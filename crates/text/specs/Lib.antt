pub mod Pages
pub mod Text
