pub mod Events
pub mod Act
