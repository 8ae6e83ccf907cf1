pub mod Rows
pub mod Sessions
pub mod Slips
