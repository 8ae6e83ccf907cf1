pub mod Shape
pub mod Rest
