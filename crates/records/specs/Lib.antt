pub mod Records
pub mod Fast
