pub mod Gaps
pub mod Lines
pub mod Times
pub mod Changes
